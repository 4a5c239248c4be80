-- What one change makes of the tables and staged files.
use Rattle.std.specs.Prelude.{◌≡◌, ◌≢◌, ℕ, List, None}
use Rattle.std.specs.FinMap as map
use Rattle.node_store.specs.declared.changes.NodeOp.{NodeOp}
use Rattle.node_store.specs.declared.changes.NodeOp.TheVariants.{Create, Set, Delete}
use Rattle.node_store.specs.Nodes.{Nodes}
use Rattle.store_layout.specs.declared.tables.TableNode.{TableNode}
use Rattle.store_layout.specs.Tables.{table_path, table_value, staged_path, IsTableAt, IsStagedAt, Catalog, IsCatalogOf}
use Rattle.table_names.specs.Names.{with_table}

-- the change that writes a table over the one of its id
abbrev pub set_table : TableNode → NodeOp
set_table table = Set (table_path table.id) (table_value table) None

-- the change that makes the node of a table
abbrev pub make_table : TableNode → NodeOp
make_table table = Create (table_path table.id) (table_value table)

-- the change that makes the node of a staged file
abbrev pub stage : List ℕ → List ℕ → NodeOp
stage name path = Create (staged_path name) path

-- the change that takes the node of a staged file out
abbrev pub unstage : List ℕ → NodeOp
unstage name = Delete (staged_path name) None

-- each other path has what it had
pub record StaysBut (changed : List ℕ) (before after : Nodes) : Type 0 where
  pub each : (path : List ℕ) → path ≢ changed → map.get after path ≡ map.get before path

-- the nodes tell this table, and are as before elsewhere
pub record WritesTable (table : TableNode) (before after : Nodes) : Type 0 where
  pub told : IsTableAt after table.id table
  pub others : StaysBut (table_path table.id) before after
  pub catalog : (catalog : Catalog) → IsCatalogOf before catalog → IsCatalogOf after (with_table catalog table)

-- the nodes tell that this file is staged, and are as before elsewhere
pub record StagesFile (name path : List ℕ) (before after : Nodes) : Type 0 where
  pub told : IsStagedAt after name path
  pub others : StaysBut (staged_path name) before after

-- the nodes tell of no staged file of this name, and are as before elsewhere
pub record UnstagesFile (name : List ℕ) (before after : Nodes) : Type 0 where
  pub gone : map.get after (staged_path name) ≡ None
  pub others : StaysBut (staged_path name) before after
