use Rattle.std.proofs.Common.{IsTrue, refl, subst}
use Rattle.ground_store.specs.Acts.{stop_of}
use Rattle.cluster_state.specs.Value.{ClusterValue}
use Rattle.cluster_state.specs.Station.{StaysStation}
use Rattle.cluster_state.proofs.Stations.{reads_station}
use Rattle.cluster_state.proofs.Running.{same_runs}
use Rattle.cluster_state.proofs.cluster.Cluster.names_left.Goals as goal

pub invariant_of-self : goal.invariant_of-self
invariant_of-self g c = λ runs. same_runs c.self.inside.base c.names_left.new.self c.self.inside.servers c.self.invariant c.names_left.ensures.acts.stays c.names_left.ensures.same.0 c.names_left.ensures.same.1 runs

pub returns-clause-station : goal.returns-clause-station
returns-clause-station g c =
    let in_it = c.self.inside in
    let old : ClusterValue g.row.H.Denot = record { base = in_it.base; servers = in_it.servers; book = in_it.book; hosted = in_it.hosted; metadata = in_it.metadata; users = in_it.users } in
    let new : ClusterValue g.row.H.Denot = record old { base = c.names_left.new.self } in
    subst (λ o. IsTrue (g.H.Host.state o.base.host).is_faithful → StaysStation g.H.Host.state (stop_of c.names_left.result) o new) c.self.view_is
    (λ f. reads_station g.H.Host.state (stop_of c.names_left.result) old new c.names_left.ensures.acts refl f)
