-- Entries path by path.
use Rattle.std.proofs.Common.{◌≡◌, ℕ, ◌≤◌, List, [], ◌++◌, length, drop, sym, subst}
use Rattle.std.proofs.lemmas.List.{drop_all, append-nil}
use Rattle.node_store.specs.Nodes.{Nodes}
use Rattle.table_locks.specs.declared.grants.LockEntry.{LockEntry}
use Rattle.table_locks.specs.Entries.{EachStands}

-- no entry is left
pub stands_all : (table : List ℕ) (nodes : Nodes) (paths : List (List ℕ)) (entries : List LockEntry) (i : ℕ) → length paths ≤ i → ((more : List LockEntry) → EachStands table nodes (drop i paths) more → EachStands table nodes paths (entries ++ more)) → EachStands table nodes paths entries
stands_all table nodes paths entries i past before = subst (λ l. EachStands table nodes paths l) (append-nil entries) (before [] (subst (λ l. EachStands table nodes l []) (sym (drop_all i paths past)) tt))
