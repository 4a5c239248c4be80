use Rattle.std.proofs.Common.{IsTrue, refl, subst}
use Rattle.ground_store.specs.Acts.{Acts, stop_of}
use Rattle.cluster_state.specs.Value.{ClusterValue}
use Rattle.cluster_state.specs.Passing.{IsFileAside, KeepsAside, LosesFile, TellsAside}
use Rattle.cluster_state.proofs.Keeps.{acts_aside}
use Rattle.cluster_state.proofs.Aside.{file_keeps}
use Rattle.cluster_state.proofs.Passed.{take_station, tells_aside}
use Rattle.cluster_state.proofs.Running.{same_runs}
use Rattle.cluster_state.proofs.cluster.Cluster.remove_file.Goals as goal

pub invariant_of-self : goal.invariant_of-self
invariant_of-self g c = λ runs. same_runs c.self.inside.base c.remove_file.new.self c.self.inside.servers c.self.invariant c.remove_file.ensures.acts.stays c.remove_file.ensures.same.0 c.remove_file.ensures.same.1 runs

pub returns-clause-keeps : goal.returns-clause-keeps
returns-clause-keeps g c =
    let base = c.self.inside.base in
    let files = (g.H.Host.state base.host).files in
    subst (λ (o : ClusterValue g.row.H.Denot). Acts g.H.Host.state (KeepsAside (IsFileAside c.args.path.now)) (KeepsAside (IsFileAside c.args.path.now)) (stop_of c.remove_file.result) o.base c.remove_file.new.self) c.self.view_is
    (acts_aside g.H.Host.state (IsFileAside c.args.path.now) (stop_of c.remove_file.result) (g.met.H.Host.sound base.host) c.remove_file.ensures.acts
    (λ i may. file_keeps c.args.path.now c.requires files i may)
    (λ i done. file_keeps c.args.path.now c.requires files i done))

pub returns-clause-station : goal.returns-clause-station
returns-clause-station g c =
    let in_it = c.self.inside in
    let old : ClusterValue g.row.H.Denot = record { base = in_it.base; servers = in_it.servers; book = in_it.book; hosted = in_it.hosted; metadata = in_it.metadata; users = in_it.users } in
    let new : ClusterValue g.row.H.Denot = record old { base = c.remove_file.new.self } in
    subst (λ (o : ClusterValue g.row.H.Denot). IsTrue (g.H.Host.state o.base.host).is_faithful → TellsAside g.H.Host.state (IsFileAside c.args.path.now) (LosesFile c.args.path.now) (stop_of c.remove_file.result) o new) c.self.view_is
    (λ f. tells_aside g.H.Host.state (IsFileAside c.args.path.now) (LosesFile c.args.path.now) (stop_of c.remove_file.result) old new c.remove_file.ensures.acts f
    (λ reading catalog known plain is runs apart done. take_station g.H.Host.state reading catalog known plain old new refl is runs c.args.path.now c.requires apart done))
