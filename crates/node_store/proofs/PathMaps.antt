-- A tree of paths as a finite map.
use Rattle.std.proofs.Common.{◌≡◌, ℕ, Bool, true, false, List, [], ◌∷◌, Option, Some, None, unwrap_or, cond, ◌&&◌, All, subst, refl, sym, ◌∙◌, ap}
use Rattle.std.specs.Ordering.{eq_by_cmp, is_lt, is_eq}
use Rattle.node_store.specs.PathsTo.{path_cmp, PathsTo, with_entry, with_entries, overlaid}
use Rattle.std.specs.Cmp.{eq_by_cmp_equiv}
use Rattle.std.specs.Cmp.Lexicographic.{nat_list_cmp_total}
use Rattle.std.specs.Map.{lookup, keys_of}
use Rattle.std.specs.List.{AllByRecursion}
use Rattle.std.specs.List.Sorted.{IsStrictlySortedBy}
use lib.Dec.{T}
use Rattle.std.specs.declared.cmp.Ordering.{Ordering}
use Rattle.std.specs.declared.cmp.Ordering.TheVariants.{Less, Equal, Greater}
use Rattle.std.proofs.lemmas.Map.Views.{tells_apart}
use Rattle.std.proofs.lemmas.Map.Lookups.{exact_bytes}
use Rattle.std.specs.FinMap.Entries.{below_all, put, by_order}
use Rattle.std.proofs.lemmas.List.Elements.{All-nil, All-cons, All-head, All-tail, All-same}
use Rattle.std.specs.BTreeMap.{is_at}
use Rattle.std.specs.FinMap as map
use Rattle.std.specs.FinMap.{find, get-insert, get-remove, get-from_entries, get-entries, get-empty, get-from_sorted, entries-insert, entries-from_sorted, is_sorted, same_map, slice_cmp-IsAntisymmetric, nat_cmp-IsAntisymmetric}

pub same_paths : {V : Type 0} (m n : PathsTo V) → ((q : List ℕ) → map.get m q ≡ map.get n q) → m ≡ n
same_paths m n is = same_map nat_list_cmp_total (slice_cmp-IsAntisymmetric nat_cmp-IsAntisymmetric) m n is

lookup-find : {V : Type 0} (q : List ℕ) (es : List (List ℕ × V)) → lookup (is_at (path_cmp q)) es ≡ find path_cmp q es
lookup-find q [] = refl
lookup-find q (e ∷ es) = ap (λ o. cond (eq_by_cmp path_cmp q e.0) (Some e.1) o) (lookup-find q es)

-- what a tree answers is what its map does
pub lookup-map : {V : Type 0} (q : List ℕ) (es : List (List ℕ × V)) → lookup (is_at (path_cmp q)) es ≡ map.get (map.from_entries {R = path_cmp} es) q
lookup-map q es = lookup-find q es ∙ sym (get-from_entries nat_list_cmp_total es q)

turned_test : (k q : List ℕ) {V : Type 0} (x y : Option V) → cond (is_at (path_cmp k) q) x y ≡ cond (eq_by_cmp path_cmp q k) x y
turned_test k q x y = ap (λ b. cond b x y) ((eq_by_cmp_equiv nat_list_cmp_total).symm k q)

pub updated-insert : {V : Type 0} (m n : List (List ℕ × V)) (k : List ℕ) (v : V) → ((q : List ℕ) → lookup (is_at (path_cmp q)) n ≡ cond (is_at (path_cmp k) q) (Some v) (lookup (is_at (path_cmp q)) m))
    → map.from_entries {R = path_cmp} n ≡ map.insert (map.from_entries m) k v
updated-insert m n k v updates = same_paths _ _ (λ q.
    sym (lookup-map q n) ∙ updates q ∙ turned_test k q (Some v) _ ∙ ap (λ o. cond (eq_by_cmp path_cmp q k) (Some v) o) (lookup-map q m) ∙ sym (get-insert nat_list_cmp_total (map.from_entries m) k v q))

pub updated-remove : {V : Type 0} (m n : List (List ℕ × V)) (k : List ℕ) → ((q : List ℕ) → lookup (is_at (path_cmp q)) n ≡ cond (is_at (path_cmp k) q) None (lookup (is_at (path_cmp q)) m))
    → map.from_entries {R = path_cmp} n ≡ map.remove (map.from_entries m) k
updated-remove m n k updates = same_paths _ _ (λ q.
    sym (lookup-map q n) ∙ updates q ∙ turned_test k q None _ ∙ ap (λ o. cond (eq_by_cmp path_cmp q k) None o) (lookup-map q m) ∙ sym (get-remove nat_list_cmp_total (map.from_entries m) k q))

pub get-with_entry : {V : Type 0} (m : PathsTo V) (k : List ℕ) (w : Option V) (q : List ℕ) → map.get (with_entry m k w) q ≡ cond (eq_by_cmp path_cmp q k) w (map.get m q)
get-with_entry m k None q = get-remove nat_list_cmp_total m k q
get-with_entry m k (Some v) q = get-insert nat_list_cmp_total m k v q

unwrapped : {V : Type 0} (b : Bool) (x d : V) (o : Option V) → cond b x (unwrap_or o d) ≡ unwrap_or (cond b (Some x) o) d
unwrapped true x d o = refl
unwrapped false x d o = refl

get-with_entries : {V : Type 0} (m : PathsTo V) (es : List (List ℕ × Option V)) (q : List ℕ) → map.get (with_entries m es) q ≡ unwrap_or (find path_cmp q es) (map.get m q)
get-with_entries m [] q = refl
get-with_entries m (e ∷ es) q = get-with_entry (with_entries m es) e.0 e.1 q ∙ ap (λ o. cond (eq_by_cmp path_cmp q e.0) e.1 o) (get-with_entries m es q) ∙ unwrapped (eq_by_cmp path_cmp q e.0) e.1 (map.get m q) (find path_cmp q es)

-- what changes over a map leave at a path
pub get-overlaid : {V : Type 0} (m : PathsTo V) (changes : PathsTo (Option V)) (q : List ℕ) → map.get (overlaid m changes) q ≡ unwrap_or (map.get changes q) (map.get m q)
get-overlaid m changes q = get-with_entries m (map.entries changes) q ∙ ap (λ o. unwrap_or o (map.get m q)) (sym (get-entries changes q))

-- one change more
pub overlaid-insert : {V : Type 0} (m : PathsTo V) (changes : PathsTo (Option V)) (k : List ℕ) (w : Option V) → overlaid m (map.insert changes k w) ≡ with_entry (overlaid m changes) k w
overlaid-insert m changes k w = same_paths _ _ (λ q.
    get-overlaid m (map.insert changes k w) q ∙ ap (λ o. unwrap_or o (map.get m q)) (get-insert nat_list_cmp_total changes k w q) ∙ sym (unwrapped (eq_by_cmp path_cmp q k) w (map.get m q) (map.get changes q))
    ∙ ap (λ o. cond (eq_by_cmp path_cmp q k) w o) (sym (get-overlaid m changes q)) ∙ sym (get-with_entry (overlaid m changes) k w q))

-- no change leaves the map
pub overlaid-empty : {V : Type 0} (m : PathsTo V) → overlaid m map.empty ≡ m
overlaid-empty m = same_paths _ _ (λ q. get-overlaid m map.empty q ∙ ap (λ o. unwrap_or o (map.get m q)) (get-empty path_cmp q))

-- ---- a tree's entries in their order

parts : (a b : Bool) → T (a && b) → T a × T b
parts true b p = (tt, p)
parts false b p = absurd p

both : (a b : Bool) → T a → T b → T (a && b)
both true b p q = q
both false b p q = p

sorted_behind : {V : Type 0} (k : List ℕ) (es : List (List ℕ × V)) → AllByRecursion (λ y. path_cmp k y ≡ Less) (keys_of es) → T (below_all path_cmp k es)
sorted_behind k [] all = tt
sorted_behind k (e ∷ es) all = both (is_lt (path_cmp k e.0)) (below_all path_cmp k es) (subst (λ o. T (is_lt o)) (sym all.0) tt) (sorted_behind k es all.1)

pub sorted-ordered : {V : Type 0} (es : List (List ℕ × V)) → IsStrictlySortedBy path_cmp (keys_of es) → T (is_sorted path_cmp es)
unfolding IsStrictlySortedBy
sorted-ordered [] ordered = tt
sorted-ordered (e ∷ es) ordered = both (below_all path_cmp e.0 es) (is_sorted path_cmp es) (sorted_behind e.0 es ordered.0) (sorted-ordered es ordered.1)

-- the map of entries in order has these entries
pub entries-map : {V : Type 0} (es : List (List ℕ × V)) → T (is_sorted path_cmp es) → map.entries (map.from_entries {R = path_cmp} es) ≡ es
entries-map es sorted =
    ap map.entries (same_paths (map.from_entries es) (map.from_sorted es) (λ q. get-from_entries nat_list_cmp_total es q ∙ sym (get-from_sorted path_cmp es q sorted)))
    ∙ entries-from_sorted path_cmp es sorted

pub keys-map : {V : Type 0} (es : List (List ℕ × V)) → IsStrictlySortedBy path_cmp (keys_of es) → map.keys (map.from_entries {R = path_cmp} es) ≡ keys_of es
keys-map es ordered = ap keys_of (entries-map es (sorted-ordered es ordered))

-- ---- changes merged into a map, from the first on

find_behind : {V : Type 0} (k : List ℕ) (es : List (List ℕ × V)) → T (below_all path_cmp k es) → find path_cmp k es ≡ None
find_behind k [] behind = refl
find_behind k (e ∷ es) behind =
    let two = parts (is_lt (path_cmp k e.0)) (below_all path_cmp k es) behind in
    ap (λ b. cond b (Some e.1) (find path_cmp k es)) (apart (path_cmp k e.0) two.0) ∙ find_behind k es two.1
  where
    apart : (o : Ordering) → T (is_lt o) → is_eq o ≡ false
    apart Less p = refl
    apart Equal p = absurd p
    apart Greater p = absurd p

pub merged_rest : {V : Type 0} (e : List ℕ × V) (es : List (List ℕ × V)) → T (is_sorted path_cmp (e ∷ es)) → T (is_sorted path_cmp es)
merged_rest e es sorted = (parts (below_all path_cmp e.0 es) (is_sorted path_cmp es) sorted).1

pub merged_more : {V : Type 0} (m : PathsTo V) (e : List ℕ × Option V) (es : List (List ℕ × Option V)) → T (is_sorted path_cmp (e ∷ es)) → (q : List ℕ)
    → unwrap_or (find path_cmp q es) (map.get (with_entry m e.0 e.1) q) ≡ unwrap_or (find path_cmp q (e ∷ es)) (map.get m q)
merged_more {V} m e es sorted q =
    ap (λ o. unwrap_or (find path_cmp q es) o) (get-with_entry m e.0 e.1 q)
    ∙ elim (eq_by_cmp path_cmp q e.0) as (λ b. eq_by_cmp path_cmp q e.0 ≡ b → unwrap_or (find path_cmp q es) (cond b e.1 (map.get m q)) ≡ unwrap_or (cond b (Some e.1) (find path_cmp q es)) (map.get m q)) [
      | true ↦ λ is. ap (λ (o : Option (Option V)). unwrap_or o e.1) (ap (λ k. find path_cmp k es) (tells_apart exact_bytes q e.0 is) ∙ find_behind e.0 es (parts (below_all path_cmp e.0 es) (is_sorted path_cmp es) sorted).0)
      | false ↦ λ is. refl
    ] refl

pub merged_turn : {V : Type 0} (m start : PathsTo V) (whole s t : List (List ℕ × Option V)) (e : List ℕ × Option V) (after : PathsTo V) → s ≡ e ∷ t → T (is_sorted path_cmp s)
    → ((q : List ℕ) → unwrap_or (find path_cmp q s) (map.get m q) ≡ unwrap_or (find path_cmp q whole) (map.get start q))
    → after ≡ with_entry m e.0 e.1 → (q : List ℕ) → unwrap_or (find path_cmp q t) (map.get after q) ≡ unwrap_or (find path_cmp q whole) (map.get start q)
merged_turn m start whole s t e after is sorted so made q =
    ap (λ n. unwrap_or (find path_cmp q t) (map.get n q)) made ∙ merged_more m e t (subst (λ l. T (is_sorted path_cmp l)) is sorted) q ∙ ap (λ l. unwrap_or (find path_cmp q l) (map.get m q)) (sym is) ∙ so q

pub merged_sorted : {V : Type 0} (s t : List (List ℕ × V)) (e : List ℕ × V) → s ≡ e ∷ t → T (is_sorted path_cmp s) → T (is_sorted path_cmp t)
merged_sorted s t e is sorted = merged_rest e t (subst (λ l. T (is_sorted path_cmp l)) is sorted)

-- at the end all changes lie over the map
pub merged_all : {V : Type 0} (m start : PathsTo V) (changes : List (List ℕ × Option V)) → ((q : List ℕ) → map.get m q ≡ unwrap_or (find path_cmp q changes) (map.get start q)) → m ≡ overlaid start (map.from_entries changes)
merged_all m start changes so = same_paths _ _ (λ q. so q ∙ ap (λ o. unwrap_or o (map.get start q)) (sym (get-from_entries nat_list_cmp_total changes q)) ∙ sym (get-overlaid start (map.from_entries changes) q))

-- ---- what holds of each key

All-keys-put : {V : Type 0} (P : List ℕ → Type 0) (k : List ℕ) (v : V) (es : List (List ℕ × V)) → P k → All P (keys_of es) → All P (keys_of (put path_cmp k v es))
All-keys-put P k v [] here all = All-cons P k [] here all
All-keys-put {V} P k v (e ∷ es) here all =
    let first = All-head P e.0 (keys_of es) all in
    let rest = All-tail P e.0 (keys_of es) all in
    elim (path_cmp k e.0) as (λ o. All P (keys_of (by_order o ((k, v) ∷ e ∷ es) ((e.0, v) ∷ es) (e ∷ put path_cmp k v es)))) [
      | Less ↦ All-cons P k (e.0 ∷ keys_of es) here all
      | Equal ↦ all
      | Greater ↦ All-cons P e.0 _ first (All-keys-put P k v es here rest)
    ]

-- the keys of a map are among those of its list
pub All-keys-map : {V : Type 0} (P : List ℕ → Type 0) (es : List (List ℕ × V)) → All P (keys_of es) → All P (map.keys (map.from_entries {R = path_cmp} es))
All-keys-map {V} P [] all = All-same P _ _ (ap keys_of (entries-map {V = V} [] tt)) (All-nil P)
All-keys-map {V} P (e ∷ es) all =
    All-same P _ _ (ap keys_of (entries-insert nat_list_cmp_total (map.from_entries {R = path_cmp} es) e.0 e.1))
    (All-keys-put P e.0 e.1 (map.entries (map.from_entries {R = path_cmp} es)) (All-head P e.0 (keys_of es) all) (All-keys-map P es (All-tail P e.0 (keys_of es) all)))
