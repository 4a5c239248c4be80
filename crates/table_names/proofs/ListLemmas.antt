-- Tables among those that are listed.
use Rattle.std.proofs.Common.{◌≡◌, inl, inr, ⊎_elim, ℕ, suc, ◌≤◌, Bool, true, false, not, ◌==◌, ◌||◌, List, [], ◌∷◌, ◌++◌, length, map as mapped, Some, IsTrue, refl, sym, ◌∙◌, ap, subst, arith}
use Rattle.std.specs.Prelude.{codes}
use Rattle.std.specs.FinMap as map
use Rattle.std.specs.FinMap.{contains_key-keys}
use Rattle.std.specs.Option.{is_some}
use Rattle.std.specs.List.{All, Contains, list_all, list_any}
use Rattle.std.proofs.lemmas.Option.{same_Some}
use Rattle.std.proofs.lemmas.Bool.{and_parts, and_from}
use Rattle.std.proofs.lemmas.Bool.Decides.{nat_tests}
use Rattle.std.proofs.lemmas.List.Elements.{All-contains}
use Rattle.std.proofs.lemmas.Map.Views.{Contains-from_any, tells_apart}
use Rattle.std.proofs.lemmas.Map.Lookups.{exact_bytes}
use Rattle.row_keys.specs.Forms.{is_lower_or_digit, IsUserTableId}
use Rattle.cell_merge.proofs.Membership.{Contains-nil, Contains-here, Contains-there, Contains-cons_cases, Contains-in_filter}
use Rattle.node_store.specs.PathsTo.{PathsTo}
use Rattle.node_store.specs.Nodes.{Nodes}
use Rattle.node_store.specs.Children.{is_single_name, is_child}
use Rattle.store_layout.specs.declared.tables.TableNode.{TableNode}
use Rattle.store_layout.specs.Tables.{table_path, IsTableAt}
use Rattle.store_layout.proofs.TableLemmas.{one_table}
use Rattle.table_names.specs.Tables.{IsTold, AreTables, table_paths}

-- an image of a list's elements is that of one of them
pub Contains-map : {X Y : Type 0} (f : X → Y) (xs : List X) (y : Y) → Contains (mapped f xs) y → (x : X) × Contains xs x × (f x ≡ y)
Contains-map f [] y there = absurd (Contains-nil y there)
Contains-map f (x ∷ xs) y there = ⊎_elim
    (λ here. (x, Contains-here x xs, here))
    (λ behind. let more = Contains-map f xs y behind in (more.0, Contains-there x more.0 xs more.1, more.2))
    (Contains-cons_cases (f x) y (mapped f xs) there)

-- the path of a node is among all
pub key_among : {V : Type 0} (nodes : PathsTo V) (path : List ℕ) (node : V) → map.get nodes path ≡ Some node → Contains (map.keys nodes) path
key_among nodes path node is = Contains-from_any (tells_apart exact_bytes) path (map.keys nodes) (sym (contains_key-keys nodes path) ∙ ap is_some is)

-- ---- the ids of tables

no_slash : (byte : ℕ) → is_lower_or_digit byte ≡ true → (byte == 47) ≡ false
no_slash byte is = grind (arith, nat_tests)

without_slash : (id : List ℕ) → IsTrue (list_all is_lower_or_digit id) → list_any (λ byte. byte == 47) id ≡ false
without_slash [] all = refl
without_slash (byte ∷ more) all =
    let parts = and_parts (is_lower_or_digit byte) (list_all is_lower_or_digit more) all in
    ap (λ b. b || list_any (λ byte. byte == 47) more) (no_slash byte parts.0) ∙ without_slash more parts.1

not_zero : (n : ℕ) → not (suc n == 0) ≡ true
not_zero n = grind (arith, nat_tests)

some_name : (id : List ℕ) → 1 ≤ length id → list_any (λ byte. byte == 47) id ≡ false → is_single_name id ≡ true
some_name [] some none = absurd (omega (arith, some))
some_name (byte ∷ more) some none = and_from (not (length (byte ∷ more) == 0)) (not (list_any (λ b. b == 47) (byte ∷ more))) (not_zero (length more)) (ap not none)

single : (id : List ℕ) → IsUserTableId id → is_single_name id ≡ true
single id form = some_name id form.least (without_slash id form.each)

child : (id : List ℕ) → is_single_name id ≡ true → is_child (codes "/tables") (table_path id) ≡ true
child id is = is

-- ---- the tables

pub path_among : (nodes : Nodes) (id : List ℕ) (table : TableNode) → IsTableAt nodes id table → Contains (table_paths nodes) (table_path id)
path_among nodes id table at =
    Contains-in_filter (is_child (codes "/tables")) (map.keys nodes) (table_path id) (key_among nodes (table_path id) at.node at.there)
    (child id (single id (subst IsUserTableId at.id_is at.form.id)))

pub same_id : (one other : List ℕ) → table_path one ≡ table_path other → one ≡ other
same_id one other is = cc

-- the node of an id tells of one table
pub same_table : (nodes : Nodes) (one_id other_id : List ℕ) (one other : TableNode) → one_id ≡ other_id → IsTableAt nodes one_id one → IsTableAt nodes other_id other → one ≡ other
same_table nodes one_id other_id one other ids p q =
    one_table one other p.form q.form (p.id_is ∙ ids ∙ sym q.id_is)
    (sym p.value ∙ ap (λ node. node.value) (same_Some p.node q.node (sym p.there ∙ ap (λ id. map.get nodes (table_path id)) ids ∙ q.there)) ∙ q.value)

pub told_of : (nodes : Nodes) (tables : List TableNode) (table : TableNode) → AreTables nodes tables → Contains tables table → IsTableAt nodes table.id table
told_of nodes tables table are among = (All-contains (λ (t : TableNode). IsTold nodes t.id t) tables table are.told among).at

pub among_all : (nodes : Nodes) (tables : List TableNode) (id : List ℕ) (table : TableNode) → AreTables nodes tables → IsTableAt nodes id table → Contains tables table
among_all nodes tables id table are at =
    let listed = Contains-map (λ (t : TableNode). table_path t.id) tables (table_path id) (subst (λ paths. Contains paths (table_path id)) (sym are.are) (path_among nodes id table at)) in
    let told = told_of nodes tables listed.0 are listed.1 in
    subst (λ t. Contains tables t) (same_table nodes listed.0.id id listed.0 table (same_id listed.0.id id listed.2) told at) listed.1
