use Rattle.std.proofs.Common.{None, refl}
use Rattle.server_nodes.specs.Ending.{servers_in}
use Rattle.cluster_state.specs.Value.{ClusterValue}
use Rattle.cluster_state.proofs.Opened.{opened_cluster, opened_station}
use Rattle.cluster_state.proofs.cluster.Cluster.open.Goals as goal

pub invariant_of-result : goal.invariant_of-result
invariant_of-result g c = λ runs. opened_cluster c.take_servers_out.new.ground c.new.result c.new.ensures

pub returns-in-Ok-clause-station : goal.returns-in-Ok-clause-station
returns-in-Ok-clause-station g c = λ f known reading catalog plain of kept.
    let cluster : ClusterValue g.row.H.Denot = record { base = c.take_servers_out.new.ground; servers = c.new.result; book = c.new-in-Ok.result; hosted = c.new-in-Ok-2.result; metadata = None; users = None } in
    (_, opened_station g.H.Host.state reading catalog known plain (servers_in c.args.ground.nodes.nodes) cluster c.new.ensures c.new-in-Ok-2.ensures refl refl c.in-Ok.ensures.runs (c.in-Ok.ensures.left f known reading catalog plain of kept))
