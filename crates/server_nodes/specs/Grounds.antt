-- The ground once a server has started, and once servers were taken out: read as before, and kept with the same state.
use Rattle.std.specs.Prelude.{◌≡◌, ℕ, List, [], map, Some, Ok}
use Rattle.host_model.specs.Picture.{Image}
use Rattle.plain_model.specs.State.{PlainState}
use Rattle.node_store.specs.Nodes.{Nodes, multi_applied}
use Rattle.store_layout.specs.Tables.{Catalog}
use Rattle.store_meaning.specs.Ground.{Ground, IsGroundOf, with_nodes, with_mutations}
use Rattle.store_meaning.specs.Levels.{Reading}
use Rattle.store_meaning.specs.Kept.{IsKeptAs}
use Rattle.kept_meaning.specs.Drawn.{IsNewSession}
use Rattle.server_nodes.specs.Sessions.{session_of, log_of}
use Rattle.server_nodes.specs.Starting.{IsDrawable}
use Rattle.server_nodes.specs.Started.{HasStarted}
use Rattle.server_nodes.specs.Ending.{delete_op}

-- the ground with these nodes, and with a log that has no mutation yet
abbrev pub started_ground : Ground → ℕ → Nodes → Ground
started_ground known number nodes = with_nodes (with_mutations known (log_of (session_of number)) (Some [])) nodes

-- the session is a new one, its log has no mutation yet, and the nodes are there
pub record IsStartedGround (name : List ℕ) (reading : Reading) (catalog : Catalog) (known : Ground) (state : PlainState) (image : Image) : Type 0 where
  pub number : ℕ
  pub drawn : IsDrawable known.nodes number
  pub fresh : IsNewSession reading known.nodes (session_of number)
  pub nodes : Nodes
  pub started : HasStarted name number known.nodes nodes
  pub of : IsGroundOf image (started_ground known number nodes)
  pub kept : IsKeptAs reading catalog (started_ground known number nodes) state

-- the nodes at these paths are gone
pub record IsGroundWithout (paths : List (List ℕ)) (reading : Reading) (catalog : Catalog) (known : Ground) (state : PlainState) (image : Image) : Type 0 where
  pub nodes : Nodes
  pub gone : multi_applied (map delete_op paths) known.nodes ≡ Ok nodes
  pub of : IsGroundOf image (with_nodes known nodes)
  pub kept : IsKeptAs reading catalog (with_nodes known nodes) state
