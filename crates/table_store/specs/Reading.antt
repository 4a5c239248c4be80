-- What the nodes of a store say.
use Rattle.std.specs.Prelude.{◌≡◌, ◌⊎◌, ℕ, List, Some, None, All, Contains}
use Rattle.std.specs.FinMap as map
use Rattle.row_keys.specs.Forms.{IsWordName}
use Rattle.node_store.specs.Nodes.{Nodes}
use Rattle.node_store.specs.declared.changes.Node.{Node}
use Rattle.table_store.specs.Numbers.{IsDrawn}
use Rattle.table_store.specs.Tables.{ByName, Tables, AreDrawn}
use Rattle.store_layout.specs.Nodes.{instance_path, instance_value, root_path, next_table_path, IsNext}
use Rattle.table_store.specs.Layout.{counter_paths, fixed_paths, table_path, table_value, IsKnownPath}

pub record HasPath (nodes : Nodes) (path : List ℕ) : Type 0 where
  pub node : Node
  pub is : map.get nodes path ≡ Some node

pub record HasValue (nodes : Nodes) (path value : List ℕ) : Type 0 where
  pub node : Node
  pub is : map.get nodes path ≡ Some node
  pub value_is : node.value ≡ value

-- a number is drawn next at the path
pub record HasNext (nodes : Nodes) (path : List ℕ) : Type 0 where
  pub number : ℕ
  pub is : IsNext nodes path number

-- The nodes are of their forms, and these are the tables in them.
pub record IsReading (nodes : Nodes) (tables : Tables) : Type 0 where
  pub instance : HasValue nodes instance_path instance_value
  pub root : HasPath nodes root_path
  pub counters : All (HasNext nodes) counter_paths
  pub next : IsNext nodes next_table_path tables.next
  pub known : (path : List ℕ) (node : Node) → map.get nodes path ≡ Some node → IsKnownPath path
  -- each table has its node, and each node of a table is one of these
  pub there : (name id : List ℕ) → map.get tables.by_name name ≡ Some id → HasValue nodes (table_path id) (table_value name)
  pub listed : (id : List ℕ) (node : Node) → map.get nodes (table_path id) ≡ Some node → (name : List ℕ) × (map.get tables.by_name name ≡ Some id)
  pub named : (name id : List ℕ) → map.get tables.by_name name ≡ Some id → IsWordName name
  pub ids : AreDrawn tables

-- no tables are in the nodes: some node isn't of its form
pub record HasNoReading (nodes : Nodes) : Type 0 where
  pub none : (tables : Tables) → IsReading nodes tables → ⊥

-- ---- what the private functions that read the nodes ensure

-- the node of this path and value is that of a table, whose id was drawn before `next`
pub record IsTableNode (next : ℕ) (path value name id : List ℕ) : Type 0 where
  pub path_is : path ≡ table_path id
  pub value_is : value ≡ table_value name
  pub drawn : IsDrawn next id
  pub named : IsWordName name

pub record IsNoTableNode (next : ℕ) (path value : List ℕ) : Type 0 where
  pub none : (name id : List ℕ) → IsTableNode next path value name id → ⊥

-- the tables have one more, that of the node
pub record AddsRead (next : ℕ) (path value : List ℕ) (old new : ByName) : Type 0 where
  pub name : List ℕ
  pub id : List ℕ
  pub node : IsTableNode next path value name id
  pub free : map.get old name ≡ None
  pub is : new ≡ map.insert old name id

-- the node is one that each store has, or a table's
abbrev pub AddsNode : ℕ → List ℕ → List ℕ → ByName → ByName → Type 0
AddsNode next path value old new = (Contains fixed_paths path × (new ≡ old)) ⊎ AddsRead next path value old new

-- the node is no such, or its table's name is there
pub record AddsNone (next : ℕ) (path value : List ℕ) (old : ByName) : Type 0 where
  pub fixed : Contains fixed_paths path → ⊥
  pub free : (name id : List ℕ) → IsTableNode next path value name id → map.get old name ≡ None → ⊥

-- the table has a node
pub record HasTable (nodes : Nodes) (next : ℕ) (name id : List ℕ) : Type 0 where
  pub has : HasValue nodes (table_path id) (table_value name)
  pub drawn : IsDrawn next id
  pub named : IsWordName name

-- the path is that of one of these tables
pub record IsReadTable (by_name : ByName) (path : List ℕ) : Type 0 where
  pub name : List ℕ
  pub id : List ℕ
  pub path_is : path ≡ table_path id
  pub found : map.get by_name name ≡ Some id

-- the path is one that each store has, or that of one of these tables
abbrev pub IsRead : ByName → List ℕ → Type 0
IsRead by_name path = Contains fixed_paths path ⊎ IsReadTable by_name path

-- these are the tables whose nodes have these paths
pub record ReadsPaths (nodes : Nodes) (next : ℕ) (paths : List (List ℕ)) (by_name : ByName) : Type 0 where
  pub each : All (IsRead by_name) paths
  pub among : (name id : List ℕ) → map.get by_name name ≡ Some id → Contains paths (table_path id)
  pub have : (name id : List ℕ) → map.get by_name name ≡ Some id → HasTable nodes next name id

-- the nodes aren't those of any tables and this number
pub record ReadsNone (nodes : Nodes) (next : ℕ) : Type 0 where
  pub none : (tables : Tables) → IsReading nodes tables → tables.next ≡ next → ⊥
