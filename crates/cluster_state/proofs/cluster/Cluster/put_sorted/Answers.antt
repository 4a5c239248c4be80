use Rattle.std.proofs.Common.{IsTrue, refl, subst}
use Rattle.ground_store.specs.Acts.{Acts, stop_of}
use Rattle.cluster_state.specs.Value.{ClusterValue}
use Rattle.cluster_state.specs.Passing.{GainsSort, IsSortAside, KeepsAside, TellsAside}
use Rattle.cluster_state.proofs.Keeps.{acts_aside}
use Rattle.cluster_state.proofs.Aside.{sort_keeps}
use Rattle.cluster_state.proofs.Passed.{sort_station, tells_aside}
use Rattle.cluster_state.proofs.Running.{same_runs}
use Rattle.cluster_state.proofs.cluster.Cluster.put_sorted.Goals as goal

pub invariant_of-self : goal.invariant_of-self
invariant_of-self g c = λ runs. same_runs c.self.inside.base c.put_sorted.new.self c.self.inside.servers c.self.invariant c.put_sorted.ensures.acts.stays c.put_sorted.ensures.same.0 c.put_sorted.ensures.same.1 runs

pub returns-clause-keeps : goal.returns-clause-keeps
returns-clause-keeps g c =
    let base = c.self.inside.base in
    let files = (g.H.Host.state base.host).files in
    subst (λ (o : ClusterValue g.row.H.Denot). Acts g.H.Host.state (KeepsAside (IsSortAside c.args.log.now)) (KeepsAside (IsSortAside c.args.log.now)) (stop_of c.put_sorted.result) o.base c.put_sorted.new.self) c.self.view_is
    (acts_aside g.H.Host.state (IsSortAside c.args.log.now) (stop_of c.put_sorted.result) (g.met.H.Host.sound base.host) c.put_sorted.ensures.acts
    (λ i may. sort_keeps c.args.log.now c.bytes_of.ensures.form files i may)
    (λ i done. sort_keeps c.args.log.now c.bytes_of.ensures.form files i done))

pub returns-clause-station : goal.returns-clause-station
returns-clause-station g c =
    let in_it = c.self.inside in
    let old : ClusterValue g.row.H.Denot = record { base = in_it.base; servers = in_it.servers; book = in_it.book; hosted = in_it.hosted; metadata = in_it.metadata; users = in_it.users } in
    let new : ClusterValue g.row.H.Denot = record old { base = c.put_sorted.new.self } in
    subst (λ (o : ClusterValue g.row.H.Denot). IsTrue (g.H.Host.state o.base.host).is_faithful → TellsAside g.H.Host.state (IsSortAside c.args.log.now) (GainsSort c.args.log.now c.args.mutations.now) (stop_of c.put_sorted.result) o new) c.self.view_is
    (λ f. tells_aside g.H.Host.state (IsSortAside c.args.log.now) (GainsSort c.args.log.now c.args.mutations.now) (stop_of c.put_sorted.result) old new c.put_sorted.ensures.acts f
    (λ reading catalog known plain is runs apart done. sort_station g.H.Host.state reading catalog known plain old new refl is runs c.args.log.now c.args.mutations.now c.bytes_of.ensures.form apart done))
