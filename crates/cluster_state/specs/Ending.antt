-- How a server goes.
use Rattle.std.specs.Prelude.{◌≡◌, ℕ, List}
use Rattle.std.specs.FinMap as map
use Rattle.server_list.specs.Servers.{ended}
use Rattle.server_nodes.specs.Sessions.{server_path}
use Rattle.cluster_state.specs.Value.{ClusterValue}

-- It is out of the list, and its node is gone; all else is as it was.
pub record EndsServer {H : Type 0} (name : List ℕ) (old new : ClusterValue H) : Type 0 where
  pub nodes : new.base.nodes.nodes ≡ map.remove old.base.nodes.nodes (server_path name)
  pub store : new.base.nodes.name ≡ old.base.nodes.name
  pub logs : new.base.logs ≡ old.base.logs
  pub rest : new ≡ record old { base = new.base; servers = ended name old.servers }
