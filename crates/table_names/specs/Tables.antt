-- The tables that nodes tell of.
use Rattle.std.specs.Prelude.{◌≡◌, ℕ, ◌&&◌, Bool, true, false, if◌then◌else◌, List, [], ◌∷◌, map as mapped, codes, Option, Some, None}
use Rattle.std.specs.FinMap as map
use Rattle.std.specs.List.{All, Contains}
use Rattle.host_model.specs.declared.fault.Stop.{Stop}
use Rattle.host_model.specs.declared.fault.Stop.TheVariants.{Host, Damaged, Full, NoMemory}
use Rattle.row_keys.specs.Forms.{IsTableId}
use Rattle.metadata_schema.specs.Bytes.{same}
use Rattle.node_store.specs.Children.{children_of}
use Rattle.node_store.specs.Nodes.{Nodes}
use Rattle.node_store.specs.Value.{StoreValue}
use Rattle.store_layout.specs.declared.tables.TableNode.{TableNode}
use Rattle.store_layout.specs.declared.tables.TableState.{TableState}
use Rattle.store_layout.specs.declared.tables.TableState.TheVariants.{New, Online, Deleting}
use Rattle.store_layout.specs.Tables.{table_path, IsTableAt}
use Rattle.table_names.specs.Marks.{AreByteBounds}

-- the node of this id is this table's, and the bounds of its mark are of bytes
pub record IsTold (nodes : Nodes) (id : List ℕ) (table : TableNode) : Type 0 where
  pub at : IsTableAt nodes id table
  pub bytes : AreByteBounds table.mark

-- the paths right below `/tables`, in byte order
abbrev pub table_paths : Nodes → List (List ℕ)
table_paths nodes = children_of (codes "/tables") (map.keys nodes)

-- ---- one table

-- the node of this id is the table's, or there is none
abbrev pub IsTableThere : Nodes → List ℕ → Option TableNode → Type 0
IsTableThere nodes id None = map.get nodes (table_path id) ≡ None
IsTableThere nodes id (Some table) = IsTold nodes id table

-- there is a node of this id, and it is no table's
pub record IsNoTable (nodes : Nodes) (id : List ℕ) : Type 0 where
  pub there : map.get nodes (table_path id) ≡ None → ⊥
  pub none : (table : TableNode) → IsTold nodes id table → ⊥

-- why the table of an id isn't told
abbrev pub TableCause : StoreValue → List ℕ → Stop → Type 0
TableCause store id (Host fault) = ⊥
TableCause store id (Damaged damaged) = (damaged ≡ store.name) × IsNoTable store.nodes id
TableCause store id Full = ⊥
TableCause store id NoMemory = Unit {0}

-- ---- all tables

-- the path is that of no table's id
pub record NamesNoTable (path : List ℕ) : Type 0 where
  pub none : (id : List ℕ) → IsTableId id → path ≡ table_path id → ⊥

-- the node of this path is no table's
pub record IsStray (nodes : Nodes) (path : List ℕ) : Type 0 where
  pub none : (table : TableNode) → path ≡ table_path table.id → IsTold nodes table.id table → ⊥

-- the nodes of these paths are these tables', one for each in this order
pub record AreTablesAt (nodes : Nodes) (paths : List (List ℕ)) (tables : List TableNode) : Type 0 where
  pub told : All (λ (table : TableNode). IsTold nodes table.id table) tables
  pub are : mapped (λ (table : TableNode). table_path table.id) tables ≡ paths

-- the nodes right below `/tables` are these tables', in byte order of their paths
abbrev pub AreTables : Nodes → List TableNode → Type 0
AreTables nodes tables = AreTablesAt nodes (table_paths nodes) tables

-- one of these paths has a node that is no table's
pub record HasStray (nodes : Nodes) (paths : List (List ℕ)) : Type 0 where
  pub path : List ℕ
  pub among : Contains paths path
  pub stray : IsStray nodes path

-- why the tables aren't told
abbrev pub TablesCause : StoreValue → Stop → Type 0
TablesCause store (Host fault) = ⊥
TablesCause store (Damaged damaged) = (damaged ≡ store.name) × HasStray store.nodes (table_paths store.nodes)
TablesCause store Full = ⊥
TablesCause store NoMemory = Unit {0}

-- ---- by name

abbrev pub is_online : TableState → Bool
is_online New = false
is_online Online = true
is_online Deleting = false

-- the table is ONLINE and has this name
abbrev pub is_online_named : List ℕ → TableNode → Bool
is_online_named name table = is_online table.state && same table.name name

-- the first table that is ONLINE and has this name
abbrev pub first_named : List ℕ → List TableNode → Option TableNode
first_named name [] = None
first_named name (table ∷ tables) = if is_online_named name table then Some table else first_named name tables

-- of the tables that the nodes tell of, it is the first ONLINE one of this name
pub record IsNamed (nodes : Nodes) (name : List ℕ) (found : Option TableNode) : Type 0 where
  pub tables : List TableNode
  pub are : AreTables nodes tables
  pub is : found ≡ first_named name tables
