use Rattle.std.proofs.Common.{IsTrue, refl, sym, subst}
use Rattle.ground_store.specs.Acts.{Acts, stop_of}
use Rattle.cluster_state.specs.Value.{ClusterValue}
use Rattle.cluster_state.specs.Passing.{IsNameAside, IsServerLog, KeepsAside, LosesName, TellsAside}
use Rattle.cluster_state.proofs.Keeps.{acts_aside}
use Rattle.cluster_state.proofs.Aside.{name_keeps}
use Rattle.cluster_state.proofs.Passed.{name_station, tells_aside}
use Rattle.cluster_state.proofs.Removed.{remove_cluster}
use Rattle.cluster_state.proofs.Running.{was_running}
use Rattle.cluster_state.proofs.cluster.Cluster.remove_name.Goals as goal

pub invariant_of-self : goal.invariant_of-self
invariant_of-self g c = λ runs.
    let others : IsServerLog c.args.name.now c.self.inside.servers → ⊥ = subst (λ (o : ClusterValue g.row.H.Denot). IsServerLog c.args.name.now o.servers → ⊥) (sym c.self.view_is) c.requires.others in
    let ran = was_running c.self.inside.base c.remove_name.new.self c.remove_name.ensures.acts.stays runs in
    remove_cluster g.H.Host.state c.self.inside.base c.remove_name.new.self c.self.inside.servers c.args.name.now c.remove_name.result c.remove_name.ensures.acts ran (c.self.invariant ran) others c.remove_name.ensures.nodes c.remove_name.ensures.logs runs

pub returns-clause-keeps : goal.returns-clause-keeps
returns-clause-keeps g c =
    let base = c.self.inside.base in
    let files = (g.H.Host.state base.host).files in
    subst (λ (o : ClusterValue g.row.H.Denot). Acts g.H.Host.state (KeepsAside (IsNameAside c.args.name.now)) (KeepsAside (IsNameAside c.args.name.now)) (stop_of c.remove_name.result) o.base c.remove_name.new.self) c.self.view_is
    (acts_aside g.H.Host.state (IsNameAside c.args.name.now) (stop_of c.remove_name.result) (g.met.H.Host.sound base.host) c.remove_name.ensures.acts
    (λ i may. name_keeps c.args.name.now c.requires.form files i may)
    (λ i done. name_keeps c.args.name.now c.requires.form files i done))

pub returns-clause-station : goal.returns-clause-station
returns-clause-station g c =
    let in_it = c.self.inside in
    let old : ClusterValue g.row.H.Denot = record { base = in_it.base; servers = in_it.servers; book = in_it.book; hosted = in_it.hosted; metadata = in_it.metadata; users = in_it.users } in
    let new : ClusterValue g.row.H.Denot = record old { base = c.remove_name.new.self } in
    subst (λ (o : ClusterValue g.row.H.Denot). IsTrue (g.H.Host.state o.base.host).is_faithful → TellsAside g.H.Host.state (IsNameAside c.args.name.now) (LosesName c.args.name.now) (stop_of c.remove_name.result) o new) c.self.view_is
    (λ f. tells_aside g.H.Host.state (IsNameAside c.args.name.now) (LosesName c.args.name.now) (stop_of c.remove_name.result) old new c.remove_name.ensures.acts f
    (λ reading catalog known plain is runs apart done. name_station g.H.Host.state reading catalog known plain old new refl is runs c.args.name.now c.requires.form apart done))
