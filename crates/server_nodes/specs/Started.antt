-- What the changes with which a server starts make of the nodes.
use Rattle.std.specs.Prelude.{◌≡◌, ◌≢◌, ℕ, ◌+◌, List, Some}
use Rattle.std.specs.FinMap as map
use Rattle.std.specs.Fmt.{decimal}
use Rattle.node_store.specs.declared.changes.Node.{Node}
use Rattle.node_store.specs.Nodes.{Nodes}
use Rattle.store_layout.specs.Nodes.{next_session_path}
use Rattle.server_nodes.specs.Sessions.{session_of, log_of, server_path, log_path}
use Rattle.server_nodes.specs.Starting.{IsDrawable}

-- the path has a node of this value
pub record HasValue (nodes : Nodes) (path value : List ℕ) : Type 0 where
  pub node : Node
  pub there : map.get nodes path ≡ Some node
  pub is : node.value ≡ value

-- the number was drawn, the session's log and the server have their nodes, and no other node changes
pub record HasStarted (name : List ℕ) (number : ℕ) (old new : Nodes) : Type 0 where
  pub counter : HasValue new next_session_path (decimal (number + 1))
  pub log : HasValue new (log_path (session_of number)) (log_of (session_of number))
  pub server : HasValue new (server_path name) (session_of number)
  pub others : (path : List ℕ) → path ≢ next_session_path → path ≢ log_path (session_of number) → path ≢ server_path name → map.get new path ≡ map.get old path

-- that of this session, which was drawn
pub record IsStarted (name session : List ℕ) (old new : Nodes) : Type 0 where
  pub number : ℕ
  pub drawn : IsDrawable old number
  pub is : session ≡ session_of number
  pub nodes : HasStarted name number old new
