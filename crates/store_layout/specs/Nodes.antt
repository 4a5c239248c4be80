-- The nodes that each store has: their paths, and what their values say.
use Rattle.std.specs.Prelude.{◌≡◌, ℕ, ◌+◌, ◌<◌, ◌^◌, List, [], ◌∷◌, codes, Some, None}
use Rattle.std.specs.FinMap as map
use Rattle.std.specs.Fmt.{decimal}
use Rattle.metadata_schema.specs.declared.tablet.TabletRecord.{TabletRecord}
use Rattle.metadata_schema.specs.Columns.{columns_of}
use Rattle.log_files.specs.Mutations.{spelled_updates}
use Rattle.node_store.specs.declared.changes.Node.{Node}
use Rattle.node_store.specs.declared.changes.NodeOp.{NodeOp}
use Rattle.node_store.specs.declared.changes.NodeOp.TheVariants.{Set}
use Rattle.node_store.specs.Nodes.{Nodes}

-- the program, and the version of what it writes
abbrev pub instance_path : List ℕ
instance_path = codes "/instance"

abbrev pub instance_value : List ℕ
instance_value = codes "accmgr 1"

-- the root tablet's record: its columns, as the updates that write them
abbrev pub root_path : List ℕ
root_path = codes "/root"

abbrev pub root_value : TabletRecord → List ℕ
root_value tablet = spelled_updates (columns_of tablet)

-- the paths of the numbers that are drawn next
abbrev pub next_table_path : List ℕ
next_table_path = codes "/next/table"

abbrev pub next_transaction_path : List ℕ
next_transaction_path = codes "/next/tx"

abbrev pub next_name_path : List ℕ
next_name_path = codes "/next/name"

abbrev pub next_session_path : List ℕ
next_session_path = codes "/next/session"

abbrev pub next_lock_path : List ℕ
next_lock_path = codes "/next/lock"

-- the value of a counter that stands at this number
pub record IsCounter (value : List ℕ) (number : ℕ) : Type 0 where
  pub is : value ≡ decimal number
  pub least : 0 < number
  pub most : number < 2 ^ 63

-- a counter stands at this number, which is drawn next
pub record IsNext (nodes : Nodes) (path : List ℕ) (number : ℕ) : Type 0 where
  pub node : Node
  pub there : map.get nodes path ≡ Some node
  pub value : IsCounter node.value number

-- no number is drawn next: the counter isn't there, or says none
pub record IsNoCounter (nodes : Nodes) (path : List ℕ) : Type 0 where
  pub none : (number : ℕ) → IsNext nodes path number → ⊥

-- a number is drawn: the counter is raised by one
abbrev pub draw_ops : List ℕ → ℕ → List NodeOp
draw_ops path number = Set path (decimal (number + 1)) None ∷ []
