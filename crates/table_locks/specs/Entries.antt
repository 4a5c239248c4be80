-- How the nodes spell a table's queue.
use Rattle.std.specs.Prelude.{◌≡◌, ℕ, ◌<◌, ◌^◌, List, [], ◌∷◌, ◌++◌, length, drop, codes, Some, slice_get}
use Rattle.std.specs.FinMap as map
use Rattle.std.specs.Fmt.{decimal}
use Rattle.std.specs.List.Sorted.{IsPermutation, IsNonDecreasingBy}
use Rattle.host_model.specs.declared.fault.Stop.{Stop}
use Rattle.host_model.specs.declared.fault.Stop.TheVariants.{Host, Damaged, Full, NoMemory}
use Rattle.node_store.specs.declared.changes.Node.{Node}
use Rattle.node_store.specs.Nodes.{Nodes}
use Rattle.node_store.specs.Children.{children_of}
use Rattle.table_locks.specs.declared.grants.LockKind.{LockKind}
use Rattle.table_locks.specs.declared.grants.LockKind.TheVariants.{Read, Write}
use Rattle.table_locks.specs.declared.grants.LockEntry.{LockEntry}

-- in decimal, padded with zeros to ten digits
abbrev pub padded : ℕ → List ℕ
padded number = drop (length (decimal number)) (codes "0000000000") ++ decimal number

-- `/locks/ID`
abbrev pub queue_path : List ℕ → List ℕ
queue_path table = codes "/locks/" ++ table

-- `/locks/ID/lock-NNNNNNNNNN`
abbrev pub lock_path : List ℕ → ℕ → List ℕ
lock_path table number = queue_path table ++ codes "/lock-" ++ padded number

abbrev pub kind_text : LockKind → List ℕ
kind_text Read = codes "READ "
kind_text Write = codes "WRITE "

-- `READ t` or `WRITE t`
abbrev pub lock_value : LockKind → ℕ → List ℕ
lock_value kind tid = kind_text kind ++ decimal tid

-- the node of this path is this entry
pub record Stands (table : List ℕ) (nodes : Nodes) (path : List ℕ) (entry : LockEntry) : Type 0 where
  pub path_is : path ≡ lock_path table entry.number
  pub small_number : entry.number < 2 ^ 64
  pub node : Node
  pub there : map.get nodes path ≡ Some node
  pub value_is : node.value ≡ lock_value entry.kind entry.tid
  pub small_tid : entry.tid < 2 ^ 64

-- path by path, the nodes are these entries
abbrev pub EachStands : List ℕ → Nodes → List (List ℕ) → List LockEntry → Type 0
EachStands table nodes [] [] = Unit {0}
EachStands table nodes [] (entry ∷ entries) = ⊥
EachStands table nodes (path ∷ paths) [] = ⊥
EachStands table nodes (path ∷ paths) (entry ∷ entries) = Stands table nodes path entry × EachStands table nodes paths entries

-- the paths right below `/locks/ID`
abbrev pub lock_paths : List ℕ → Nodes → List (List ℕ)
lock_paths table nodes = children_of (queue_path table) (map.keys nodes)

-- The table's entries, one for each path, in the order of their numbers.
pub record IsQueue (table : List ℕ) (nodes : Nodes) (entries : List LockEntry) : Type 0 where
  pub found : List LockEntry
  pub each : EachStands table nodes (lock_paths table nodes) found
  pub moved : IsPermutation found entries
  pub order : IsNonDecreasingBy (λ (entry : LockEntry). entry.number) entries

-- one of these paths is no entry's
pub record HasStray (table : List ℕ) (nodes : Nodes) (paths : List (List ℕ)) : Type 0 where
  pub at : ℕ
  pub path : List ℕ
  pub is : slice_get paths at ≡ Some path
  pub none : (entry : LockEntry) → Stands table nodes path entry → ⊥

-- why there is no queue
abbrev pub QueueCause : List ℕ → List ℕ → Nodes → Stop → Type 0
QueueCause table name nodes (Host fault) = ⊥
QueueCause table name nodes (Damaged damaged) = (damaged ≡ name) × HasStray table nodes (lock_paths table nodes)
QueueCause table name nodes Full = ⊥
QueueCause table name nodes NoMemory = Unit {0}
