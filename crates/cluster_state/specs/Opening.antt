-- How a cluster begins.
use Rattle.std.specs.Prelude.{◌≡◌, Result, Ok, Err, None}
use Rattle.std.specs.FinMap as map
use Rattle.host_model.specs.declared.fault.Stop.{Stop}
use Rattle.entry_book.specs.Book.{empty_book}
use Rattle.ground_store.specs.Value.{GroundValue}
use Rattle.server_list.specs.Servers.{at_opening}
use Rattle.cluster_state.specs.Value.{ClusterValue}

-- the host behind the opening: the cluster's, or the one that is handed back
abbrev pub host_behind : {H : Type 0} → Result (ClusterValue H) (Stop × H) → H
host_behind (Ok cluster) = cluster.base.host
host_behind (Err answer) = answer.1

-- No server is in the list, the clock is at 0, no tablet is hosted, no record was read, and nothing has committed.
pub record Opens {H : Type 0} (ground : GroundValue H) (cluster : ClusterValue H) : Type 0 where
  pub runs : cluster.base.stopped ≡ None
  pub name : cluster.base.nodes.name ≡ ground.nodes.name
  pub logs : cluster.base.logs ≡ ground.logs
  pub rest : cluster ≡ record { base = cluster.base; servers = at_opening; book = empty_book; hosted = map.empty; metadata = None; users = None }
