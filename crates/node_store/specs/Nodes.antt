-- The nodes, and what a multi makes of them.
use Rattle.std.specs.Prelude.{ℕ, ◌+◌, ◌^◌, ◌==◌, nat_lt, if◌then◌else◌, Bool, true, List, [], ◌∷◌, Option, Some, None, Result, Ok, Err}
use Rattle.std.specs.FinMap as map
use Rattle.host_model.specs.declared.fault.Stop.TheVariants.{Full}
use Rattle.node_store.specs.declared.changes.Node.{Node}
use Rattle.node_store.specs.declared.changes.NodeOp.{NodeOp}
use Rattle.node_store.specs.declared.changes.NodeOp.TheVariants.{Create, Set, Delete}
use Rattle.node_store.specs.declared.changes.NodeStop.{NodeStop}
use Rattle.node_store.specs.declared.changes.NodeStop.TheVariants.{Exists, Missing, Version, Stop}
use Rattle.node_store.specs.PathsTo.{PathsTo, with_entry}

-- what each path has
abbrev pub Nodes : Type 0
Nodes = PathsTo Node

-- no version is asked for, or this one
abbrev pub allows : Option ℕ → ℕ → Bool
allows None found = true
allows (Some asked) found = asked == found

-- the node with a new value, where its next version is below 2^63
abbrev pub raised : Node → List ℕ → Result (Option Node) NodeStop
raised node value = if nat_lt (node.version + 1) (2 ^ 63) then Ok (Some (record { value = value; version = node.version + 1 })) else Err (Stop Full)

-- what a change makes of what its path has
abbrev pub turned : NodeOp → Option Node → Result (Option Node) NodeStop
turned (Create path value) None = Ok (Some (record { value = value; version = 0 }))
turned (Create path value) (Some node) = Err Exists
turned (Set path value version) None = Err Missing
turned (Set path value version) (Some node) = if allows version node.version then raised node value else Err (Version node.version)
turned (Delete path version) None = Err Missing
turned (Delete path version) (Some node) = if allows version node.version then Ok None else Err (Version node.version)

abbrev pub path_of : NodeOp → List ℕ
path_of (Create path value) = path
path_of (Set path value version) = path
path_of (Delete path version) = path

-- the next step at Ok, and else why there is none
abbrev pub and_then : {A B : Type 0} → Result A NodeStop → (A → Result B NodeStop) → Result B NodeStop
and_then (Ok x) next = next x
and_then (Err stop) next = Err stop

-- the nodes after a change, or why it is refused
abbrev pub applied : NodeOp → Nodes → Result Nodes NodeStop
applied op nodes = and_then (turned op (map.get nodes (path_of op))) (λ after. Ok (with_entry nodes (path_of op) after))

-- the nodes after these changes in their order, or why the first that is refused is
abbrev pub multi_applied : List NodeOp → Nodes → Result Nodes NodeStop
multi_applied [] nodes = Ok nodes
multi_applied (op ∷ more) nodes = and_then (applied op nodes) (λ after. multi_applied more after)
