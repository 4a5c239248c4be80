use Rattle.std.proofs.Common.{None, sym, subst}
use Rattle.cluster_state.specs.Value.{ClusterValue}
use Rattle.cluster_state.specs.Station.{StaysStation}
use Rattle.cluster_state.proofs.Stations.{ticked_station}
use Rattle.cluster_state.proofs.cluster.Cluster.tick.Goals as goal

pub returns-clause-station : goal.returns-clause-station
returns-clause-station g c =
    let in_it = c.self.inside in
    let old : ClusterValue g.row.H.Denot = record { base = in_it.base; servers = in_it.servers; book = in_it.book; hosted = in_it.hosted; metadata = in_it.metadata; users = in_it.users } in
    subst (λ o. StaysStation g.H.Host.state None o (record old { servers = c.tick.new.self })) c.self.view_is
    (subst (λ s. StaysStation g.H.Host.state None old (record old { servers = s })) (sym c.tick.ensures)
    (λ reading catalog known plain is. ticked_station g.H.Host.state reading catalog known plain c.args.ticks old is))
