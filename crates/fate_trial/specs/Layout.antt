-- Where the nodes of a transaction stand, and what changes make of the values of nodes.
use Rattle.std.specs.Prelude.{◌≡◌, ℕ, ◌^◌, nat_lt, if◌then◌else◌, Bool, List, [], ◌∷◌, ◌++◌, codes, Option, Some, None, is_some, MatchResult, ⊤}
use Rattle.std.specs.Fmt.{decimal}
use Rattle.std.specs.Option.{option_map}
use Rattle.std.specs.Ordering.{eq_by_cmp}
use Rattle.std.specs.FinMap as map
use Rattle.host_model.specs.declared.fault.Stop.TheVariants.{Full}
use Rattle.node_store.specs.declared.changes.Node.{Node}
use Rattle.node_store.specs.declared.changes.NodeOp.{NodeOp}
use Rattle.node_store.specs.declared.changes.NodeOp.TheVariants.{Create, Set, Delete}
use Rattle.node_store.specs.declared.changes.NodeStop.TheVariants.{Stop}
use Rattle.node_store.specs.PathsTo.{path_cmp}
use Rattle.node_store.specs.Nodes.{Nodes, path_of, multi_applied}
use Rattle.fate_trial.specs.declared.layout.Slot.{Slot}
use Rattle.fate_trial.specs.declared.layout.Slot.TheVariants.{Status, Lower, Upper, Walls, Roof}

-- the file of the nodes
abbrev pub nodes_name : List ℕ
nodes_name = codes "nodes"

abbrev pub slot_text : Slot → List ℕ
slot_text Status = codes "/fate/s/"
slot_text Lower = codes "/fate/0/"
slot_text Upper = codes "/fate/1/"
slot_text Walls = codes "/made/w/"
slot_text Roof = codes "/made/r/"

-- a slot's path, of this transaction
unfoldable pub slot_path : Slot → ℕ → List ℕ
slot_path slot tid = slot_text slot ++ decimal tid

-- while it has a node, towers wait
abbrev pub hold_path : List ℕ
hold_path = codes "/hold"

-- while it has a node, roofs are refused
abbrev pub ban_path : List ℕ
ban_path = codes "/ban"

-- the value at a path, if it has a node
unfoldable pub value_at : Nodes → List ℕ → Option (List ℕ)
value_at nodes path = option_map (λ (n : Node). n.value) (map.get nodes path)

-- the value in a transaction's slot. Transactions are numbered below 2^64
unfoldable pub slot_value : Nodes → Slot → ℕ → Option (List ℕ)
slot_value nodes slot tid = if nat_lt tid (2 ^ 64) then value_at nodes (slot_path slot tid) else None

-- the slot has a node
abbrev pub has : Nodes → Slot → ℕ → Bool
has nodes slot tid = is_some (slot_value nodes slot tid)

-- the value that a change leaves at its path
abbrev pub left_by : NodeOp → Option (List ℕ)
left_by (Create path value) = Some value
left_by (Set path value version) = Some value
left_by (Delete path version) = None

-- the value at a path after these changes
unfoldable pub written : List NodeOp → List ℕ → Option (List ℕ) → Option (List ℕ)
written [] path value = value
written (op ∷ more) path value = written more path (if eq_by_cmp path_cmp path (path_of op) then left_by op else value)

-- the change that gives a path a node, where it has none
abbrev pub putting : List ℕ → List ℕ → Bool → List NodeOp
putting path value there = if there then [] else (Create path value ∷ [])

-- the changes apply, but for a version at its end
pub record Applies (ops : List NodeOp) (nodes : Nodes) : Type 0 where
  pub applies : MatchResult (multi_applied ops nodes) (λ after. ⊤) (λ stop. stop ≡ Stop Full)
