-- The nodes and the tables of a store, whether there is room for a table more, and what a call makes of them.
use Rattle.std.specs.Prelude.{◌≡◌, ◌⊎◌, ℕ, ◌+◌, ◌≤◌, ◌^◌, List, length, Ok}
use Rattle.std.specs.FinMap as map
use Rattle.node_store.specs.Nodes.{multi_applied}
use Rattle.node_store.specs.Multi.{spelled_multi}
use Rattle.node_store.specs.Answers.{IsFull}
use Rattle.node_store.specs.Value.{StoreValue as NodeStoreValue}
use Rattle.store_layout.specs.Names.{nodes_name}
use Rattle.store_layout.specs.NewStore.{first_ops}
use Rattle.table_store.specs.Numbers.{base36}
use Rattle.table_store.specs.Tables.{Tables, no_tables, created}
use Rattle.table_store.specs.Layout.{create_ops}

-- there is no number or no room for one table more
abbrev pub IsCreateFull : List ℕ → Tables → NodeStoreValue → Type 0
IsCreateFull name tables nodes = (2 ^ 63 ≤ tables.next + 1) ⊎ IsFull (create_ops (base36 tables.next) name (tables.next + 1)) nodes

-- the nodes of a store, and its tables
pub record Station : Type 0 where
  pub nodes : NodeStoreValue
  pub tables : Tables

-- one table more, for which there was room
pub record AddsTable (name : List ℕ) (old new : Station) : Type 0 where
  pub room : IsCreateFull name old.tables old.nodes → ⊥
  pub nodes : multi_applied (create_ops (base36 old.tables.next) name (old.tables.next + 1)) old.nodes.nodes ≡ Ok new.nodes.nodes
  pub file : new.nodes.name ≡ old.nodes.name
  pub end : new.nodes.end ≡ old.nodes.end + 5 + length (spelled_multi (create_ops (base36 old.tables.next) name (old.tables.next + 1)))
  pub tables : new.tables ≡ created name old.tables

-- the store that is made on an unborn disk
pub record IsNewStation (new : Station) : Type 0 where
  pub nodes : multi_applied first_ops map.empty ≡ Ok new.nodes.nodes
  pub file : new.nodes.name ≡ nodes_name
  pub end : new.nodes.end ≡ 5 + length (spelled_multi first_ops)
  pub tables : new.tables ≡ no_tables
