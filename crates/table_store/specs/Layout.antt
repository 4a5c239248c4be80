-- The paths of the nodes that say the tables, the values of these, and the changes that are made of them.
use Rattle.std.specs.Prelude.{◌≡◌, ◌⊎◌, ℕ, List, [], ◌∷◌, ◌++◌, None, codes, Contains}
use Rattle.std.specs.Fmt.{decimal}
use Rattle.node_store.specs.declared.changes.NodeOp.{NodeOp}
use Rattle.node_store.specs.declared.changes.NodeOp.TheVariants.{Create, Set}
use Rattle.store_layout.specs.Nodes.{instance_path, root_path, next_table_path, next_transaction_path, next_name_path, next_session_path, next_lock_path}

-- the paths of the numbers that are drawn next
abbrev pub counter_paths : List (List ℕ)
counter_paths = next_table_path ∷ next_transaction_path ∷ next_name_path ∷ next_session_path ∷ next_lock_path ∷ []

abbrev pub table_path : List ℕ → List ℕ
table_path id = codes "/tables/" ++ id

-- a table that is ONLINE, and has no mark
abbrev pub table_value : List ℕ → List ℕ
table_value name = codes "ONLINE " ++ name ++ codes " -"

-- the paths that each store has
abbrev pub fixed_paths : List (List ℕ)
fixed_paths = instance_path ∷ root_path ∷ counter_paths

-- the path of a table's node
pub record IsTablePath (path : List ℕ) : Type 0 where
  pub id : List ℕ
  pub is : path ≡ table_path id

abbrev pub IsKnownPath : List ℕ → Type 0
IsKnownPath path = Contains fixed_paths path ⊎ IsTablePath path

-- the changes that make a table: its node, and the number that is drawn next
abbrev pub create_ops : List ℕ → List ℕ → ℕ → List NodeOp
create_ops id name next = Set next_table_path (decimal next) None ∷ Create (table_path id) (table_value name) ∷ []
