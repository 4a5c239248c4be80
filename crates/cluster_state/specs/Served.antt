-- What the nodes and the logs of a cluster have of each server in its list.
use Rattle.std.specs.Prelude.{◌≡◌, List, [], ◌∷◌, None, IsSome, find}
use Rattle.std.specs.FinMap as map
use Rattle.std.specs.List.{Contains}
use Rattle.node_store.specs.Nodes.{Nodes}
use Rattle.ground_store.specs.Value.{GroundValue, Logs}
use Rattle.server_list.specs.declared.entry.ServerEntry.{ServerEntry}
use Rattle.server_list.specs.Servers.{Servers, is_of_session}
use Rattle.server_nodes.specs.Sessions.{log_of, server_path}
use Rattle.server_nodes.specs.Started.{HasValue}

-- its node has its session, and its log was made and goes on
pub record IsServed (nodes : Nodes) (logs : Logs) (server : ServerEntry) : Type 0 where
  pub node : HasValue nodes (server_path server.name) server.session
  pub log : IsSome (map.get logs (log_of server.session))

abbrev pub AreServed : Nodes → Logs → List ServerEntry → Type 0
AreServed nodes logs servers = (server : ServerEntry) → Contains servers server → IsServed nodes logs server

-- no two have one session
unfoldable pub AreApart : List ServerEntry → Type 0
AreApart [] = Unit {0}
AreApart (server ∷ more) = (find (is_of_session server.session) more ≡ None) × AreApart more

-- what is true of each cluster that hasn't stopped
pub record IsCluster {H : Type 0} (ground : GroundValue H) (servers : Servers) : Type 0 where
  pub served : AreServed ground.nodes.nodes ground.logs servers.list
  pub apart : AreApart servers.list
