use Rattle.std.proofs.Common.{IsTrue, refl, subst}
use Rattle.ground_store.specs.Acts.{stop_of}
use Rattle.cluster_state.specs.Value.{ClusterValue}
use Rattle.cluster_state.specs.Station.{StaysStation}
use Rattle.cluster_state.proofs.Stations.{stays_station}
use Rattle.cluster_state.proofs.Running.{same_runs}
use Rattle.cluster_state.proofs.cluster.Cluster.say.Goals as goal

pub invariant_of-self : goal.invariant_of-self
invariant_of-self g c = λ runs. same_runs c.self.inside.base c.say.new.self c.self.inside.servers c.self.invariant c.say.ensures.tells.stays c.say.ensures.same.0 c.say.ensures.same.1 runs

pub returns-clause-station : goal.returns-clause-station
returns-clause-station g c =
    let in_it = c.self.inside in
    let old : ClusterValue g.row.H.Denot = record { base = in_it.base; servers = in_it.servers; book = in_it.book; hosted = in_it.hosted; metadata = in_it.metadata; users = in_it.users } in
    let new : ClusterValue g.row.H.Denot = record old { base = c.say.new.self } in
    subst (λ o. IsTrue (g.H.Host.state o.base.host).is_faithful → StaysStation g.H.Host.state (stop_of c.say.result) o new) c.self.view_is
    (λ f. stays_station g.H.Host.state (stop_of c.say.result) old new refl (λ runs. (let goes = c.say.ensures.tells.goes runs in (goes.goes_on, (goes.same f).0))))
