-- How the id of a table is drawn.
use Rattle.std.specs.Prelude.{◌≡◌, ℕ, ◌+◌, ◌^◌, ◌≤◌, ◌<◌, false, List, [], ◌∷◌}
use Rattle.std.specs.Fmt.{digits}
use Rattle.host_model.specs.declared.fault.Stop.{Stop}
use Rattle.host_model.specs.declared.fault.Stop.TheVariants.{Host, Damaged, Full, NoMemory}
use Rattle.node_store.specs.declared.changes.NodeOp.{NodeOp}
use Rattle.node_store.specs.Nodes.{Nodes}
use Rattle.node_store.specs.Value.{StoreValue}
use Rattle.store_layout.specs.Nodes.{IsNext, IsNoCounter, draw_ops, next_table_path}

-- a number in lower-case base 36
abbrev pub base36 : ℕ → List ℕ
base36 number = digits 36 false number

-- the id is that of the number that is drawn next, and the change draws this number
pub record IsTableDraw (nodes : Nodes) (id : List ℕ) (op : NodeOp) : Type 0 where
  pub number : ℕ
  pub next : IsNext nodes next_table_path number
  pub more : number + 1 < 2 ^ 63
  pub id_is : id ≡ base36 number
  pub draws : op ∷ [] ≡ draw_ops next_table_path number

-- the number that is drawn next is the last one
pub record IsLastTable (nodes : Nodes) : Type 0 where
  pub number : ℕ
  pub next : IsNext nodes next_table_path number
  pub last : 2 ^ 63 ≤ number + 1

-- why no id is drawn
abbrev pub DrawCause : StoreValue → Stop → Type 0
DrawCause store (Host fault) = ⊥
DrawCause store (Damaged damaged) = (damaged ≡ store.name) × IsNoCounter store.nodes next_table_path
DrawCause store Full = IsLastTable store.nodes
DrawCause store NoMemory = Unit {0}
