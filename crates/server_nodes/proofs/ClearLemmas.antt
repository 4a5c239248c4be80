-- Nodes that are there are taken out.
use Rattle.std.proofs.Common.{◌≡◌, ℕ, codes, Bool, true, false, cond, ◌&&◌, ◌||◌, is_some, List, [], ◌∷◌, map, filter, Option, Some, None, Ok, Err, refl, sym, ◌∙◌, ap}
use Rattle.std.specs.FinMap as finite
use Rattle.std.specs.FinMap.{get-remove, entries_sorted, contains_key-keys}
use Rattle.std.specs.FinMap.Entries.{below_all, is_sorted}
use Rattle.std.specs.List.{AllByRecursion, list_any}
use Rattle.std.specs.Map.{keys_of}
use Rattle.std.specs.Ordering.{eq_by_cmp, is_lt, is_eq}
use Rattle.std.specs.declared.cmp.Ordering.{Ordering}
use Rattle.std.specs.declared.cmp.Ordering.TheVariants.{Less, Equal, Greater}
use Rattle.std.specs.Cmp.Lexicographic.{nat_list_cmp_total}
use Rattle.std.proofs.lemmas.Cmp.{eq_by_cmp_equiv}
use lib.Dec.{T}
use Rattle.node_store.specs.declared.changes.Node.{Node}
use Rattle.node_store.specs.declared.changes.NodeOp.{NodeOp}
use Rattle.node_store.specs.declared.changes.NodeOp.TheVariants.{Delete}
use Rattle.node_store.specs.Children.{is_child}
use Rattle.node_store.specs.declared.changes.NodeStop.{NodeStop}
use Rattle.node_store.specs.declared.changes.NodeStop.TheVariants.{Stop}
use Rattle.host_model.specs.declared.fault.Stop.TheVariants.{Full}
use Rattle.node_store.specs.Nodes.{Nodes, turned, and_then, applied, multi_applied}
use Rattle.node_store.specs.PathsTo.{path_cmp, with_entry}
use Rattle.server_nodes.specs.Ending.{delete_op, servers_in, clear_ops}

abbrev same_path : List ℕ → List ℕ → Bool
same_path = eq_by_cmp path_cmp

-- each is there, and none is there twice
AreApart : Nodes → List (List ℕ) → Type 0
AreApart nodes [] = Unit {0}
AreApart nodes (path ∷ more) = (is_some (finite.get nodes path) ≡ true) × (AllByRecursion (λ other. same_path other path ≡ false) more × AreApart nodes more)

still_there : (nodes : Nodes) (path : List ℕ) (more : List (List ℕ)) → AllByRecursion (λ other. same_path other path ≡ false) more → AreApart nodes more → AreApart (finite.remove nodes path) more
unfolding AreApart
still_there nodes path [] apart are = tt
still_there nodes path (next ∷ more) apart are =
    (ap is_some (get-remove nat_list_cmp_total nodes path next ∙ ap (λ b. cond b None (finite.get nodes next)) apart.0) ∙ are.0, (are.1.0, still_there nodes path more apart.1 are.1.1))

there_deleted : (nodes : Nodes) (path : List ℕ) (found : Option Node) → finite.get nodes path ≡ found → is_some found ≡ true → applied (delete_op path) nodes ≡ Ok (finite.remove nodes path)
there_deleted nodes path None is there = absurd (let wrong : false ≡ true = there in cc)
there_deleted nodes path (Some node) is there = ap (λ o. and_then (turned (Delete path None) o) (λ after. Ok (with_entry nodes path after))) is

-- so they are taken out
all_deleted : (nodes : Nodes) (paths : List (List ℕ)) → AreApart nodes paths → (after : Nodes) × (multi_applied (map delete_op paths) nodes ≡ Ok after)
unfolding AreApart
all_deleted nodes [] are = (nodes, refl)
all_deleted nodes (path ∷ more) are =
    let rest = all_deleted (finite.remove nodes path) more (still_there nodes path more are.1.0 are.1.1) in
    (rest.0, ap (λ r. and_then r (λ after. multi_applied (map delete_op more) after)) (there_deleted nodes path (finite.get nodes path) refl are.0) ∙ rest.1)

-- ---- the keys of a map

parts : (a b : Bool) → T (a && b) → T a × T b
parts true b p = (tt, p)
parts false b p = absurd p

less_apart : (o : Ordering) → T (is_lt o) → is_eq o ≡ false
less_apart Less p = refl
less_apart Equal p = absurd p
less_apart Greater p = absurd p

-- entries in order behind this one, and those of them that pass a test
below_apart : (test : List ℕ → Bool) (key : List ℕ) (es : List (List ℕ × Node)) → T (below_all path_cmp key es) → AllByRecursion (λ other. same_path other key ≡ false) (filter test (keys_of es))
below_apart test key [] below = tt
below_apart test key (e ∷ es) below = by (below_apart test key es split.1) (test e.0) refl
  where
    split : T (is_lt (path_cmp key e.0)) × T (below_all path_cmp key es)
    split = parts (is_lt (path_cmp key e.0)) (below_all path_cmp key es) below

    first : same_path e.0 key ≡ false
    first = (eq_by_cmp_equiv nat_list_cmp_total).symm e.0 key ∙ less_apart (path_cmp key e.0) split.0

    by : AllByRecursion (λ other. same_path other key ≡ false) (filter test (keys_of es)) → (b : Bool) → test e.0 ≡ b → AllByRecursion (λ other. same_path other key ≡ false) (filter test (keys_of (e ∷ es)))
    by rest true is = rw is (first, rest)
    by rest false is = rw is rest

or_right : (a b : Bool) → b ≡ true → a || b ≡ true
or_right true b is = refl
or_right false b is = is

or_left : (a b : Bool) → a ≡ true → a || b ≡ true
or_left a b is = ap (λ x. x || b) is

apart_keys : (nodes : Nodes) (test : List ℕ → Bool) (es : List (List ℕ × Node)) → T (is_sorted path_cmp es)
    → ((path : List ℕ) → list_any (same_path path) (keys_of es) ≡ true → is_some (finite.get nodes path) ≡ true) → AreApart nodes (filter test (keys_of es))
unfolding AreApart
apart_keys nodes test [] sorted there = tt
apart_keys nodes test (e ∷ es) sorted there = by (apart_keys nodes test es split.1 (λ path among. there path (or_right (same_path path e.0) (list_any (same_path path) (keys_of es)) among))) (test e.0) refl
  where
    split : T (below_all path_cmp e.0 es) × T (is_sorted path_cmp es)
    split = parts (below_all path_cmp e.0 es) (is_sorted path_cmp es) sorted

    by : AreApart nodes (filter test (keys_of es)) → (b : Bool) → test e.0 ≡ b → AreApart nodes (filter test (keys_of (e ∷ es)))
    by rest true is = rw is (there e.0 (or_left (same_path e.0 e.0) (list_any (same_path e.0) (keys_of es)) ((eq_by_cmp_equiv nat_list_cmp_total).refl e.0)), (below_apart test e.0 es split.0, rest))
    by rest false is = rw is rest

-- all servers are taken out
pub servers_deleted : (nodes : Nodes) → (after : Nodes) × (multi_applied (clear_ops nodes) nodes ≡ Ok after)
servers_deleted nodes = all_deleted nodes (servers_in nodes)
    (apart_keys nodes (is_child (codes "/servers")) (finite.entries nodes) (entries_sorted nodes) (λ path among. contains_key-keys nodes path ∙ among))

-- so that is not refused
pub never_wanting : (nodes : Nodes) (ops : List NodeOp) → ops ≡ clear_ops nodes → (stop : NodeStop) → multi_applied ops nodes ≡ Err stop → stop ≡ Stop Full
never_wanting nodes ops are stop refused =
    let made = servers_deleted nodes in
    absurd (let ok : multi_applied (clear_ops nodes) nodes ≡ Ok made.0 = made.1 in let err : multi_applied (clear_ops nodes) nodes ≡ Err stop = ap (λ l. multi_applied l nodes) (sym are) ∙ refused in cc)
