use Rattle.std.proofs.Common.{◌<◌, ◌^◌, length, Some, None, IsTrue, refl, subst, arith}
use Rattle.std.proofs.lemmas.Result.{err_from_is_err_and}
use Rattle.ground_store.specs.Acts.{Acts}
use Rattle.data_files.specs.Files.{spelled_file}
use Rattle.cluster_state.specs.Value.{ClusterValue}
use Rattle.cluster_state.specs.Passing.{GainsFile, IsFileAside, KeepsAside, TellsAside}
use Rattle.cluster_state.proofs.Keeps.{acts_aside}
use Rattle.cluster_state.proofs.Aside.{file_keeps}
use Rattle.cluster_state.proofs.Passed.{put_station, tells_aside}
use Rattle.cluster_state.proofs.Running.{same_runs}
use Rattle.cluster_state.proofs.cluster.Cluster.put_file.Goals as goal

pub invariant_of-self : goal.invariant_of-self
invariant_of-self g c = λ runs. same_runs c.self.inside.base c.put_file.new.self c.self.inside.servers c.self.invariant c.put_file.ensures.acts.stays c.put_file.ensures.same.0 c.put_file.ensures.same.1 runs

pub invariant_of-self-2 : goal.invariant_of-self-2
invariant_of-self-2 g c = λ runs. same_runs c.self.inside.base c.put_file.new.self c.self.inside.servers c.self.invariant c.put_file.ensures.acts.stays c.put_file.ensures.same.0 c.put_file.ensures.same.1 runs

pub returns-in_err-size-clause-keeps : goal.returns-in_err-size-clause-keeps
returns-in_err-size-clause-keeps g c =
    let base = c.self.inside.base in
    let files = (g.H.Host.state base.host).files in
    let stop = c.in_err-size.field-0.0 in
    let p = err_from_is_err_and c.from_residual.result c.from_residual.ensures.1 in
    rw (p.1, p.2) (subst (λ (o : ClusterValue g.row.H.Denot). Acts g.H.Host.state (KeepsAside (IsFileAside c.args.path.now)) (KeepsAside (IsFileAside c.args.path.now)) (Some stop) o.base c.put_file.new.self) c.self.view_is
    (acts_aside g.H.Host.state (IsFileAside c.args.path.now) (Some stop) (g.met.H.Host.sound base.host) c.in_err-size.ensures.acts
    (λ i may. file_keeps c.args.path.now c.requires.path files i may)
    (λ i done. file_keeps c.args.path.now c.requires.path files i done)))

pub returns-clause-keeps : goal.returns-clause-keeps
returns-clause-keeps g c =
    let base = c.self.inside.base in
    let files = (g.H.Host.state base.host).files in
    subst (λ (o : ClusterValue g.row.H.Denot). Acts g.H.Host.state (KeepsAside (IsFileAside c.args.path.now)) (KeepsAside (IsFileAside c.args.path.now)) None o.base c.put_file.new.self) c.self.view_is
    (acts_aside g.H.Host.state (IsFileAside c.args.path.now) None (g.met.H.Host.sound base.host) c.in_ok-size.ensures.acts
    (λ i may. file_keeps c.args.path.now c.requires.path files i may)
    (λ i done. file_keeps c.args.path.now c.requires.path files i done))

pub returns-clause-station : goal.returns-clause-station
returns-clause-station g c =
    let in_it = c.self.inside in
    let old : ClusterValue g.row.H.Denot = record { base = in_it.base; servers = in_it.servers; book = in_it.book; hosted = in_it.hosted; metadata = in_it.metadata; users = in_it.users } in
    let new : ClusterValue g.row.H.Denot = record old { base = c.put_file.new.self } in
    let size = c.in_ok-size.ensures.size in
    let short : length (spelled_file c.args.cells.now) < 2 ^ 64 = omega (arith, size) in
    subst (λ (o : ClusterValue g.row.H.Denot). IsTrue (g.H.Host.state o.base.host).is_faithful → TellsAside g.H.Host.state (IsFileAside c.args.path.now) (GainsFile c.args.path.now c.args.cells.now) None o new) c.self.view_is
    (λ f. tells_aside g.H.Host.state (IsFileAside c.args.path.now) (GainsFile c.args.path.now c.args.cells.now) None old new c.in_ok-size.ensures.acts f
    (λ reading catalog known plain is runs apart done. put_station g.H.Host.state reading catalog known plain old new refl is runs c.args.path.now c.args.cells.now c.requires.path c.requires.cells short apart done))
