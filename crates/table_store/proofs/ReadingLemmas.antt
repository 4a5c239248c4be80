-- The tables that the nodes of a store say.
use Rattle.std.proofs.Common.{◌≡◌, ◌≢◌, inl, inr, ⊎_elim, ℕ, ◌<◌, ◌&&◌, ◌||◌, Bool, true, false, cond, List, [], ◌∷◌, ◌++◌, length, take, get_or, Option, Some, None, refl, sym, ◌∙◌, ap, subst, arith}
use Rattle.std.specs.Prelude.{MatchOption, All, Contains, IsSome}
use lib.Dec.{T}
use Rattle.std.specs.Borrow.{Bor}
use Rattle.std.specs.FinMap as map
use Rattle.std.specs.FinMap.{is_sorted, entries_sorted, contains_key-keys, get-insert, get-empty}
use Rattle.std.specs.FinMap.Entries.{below_all}
use Rattle.std.specs.Map.{keys_of}
use Rattle.std.specs.Str.{bytes_eq}
use Rattle.std.specs.List.{list_any, AllByRecursion}
use Rattle.std.specs.List.Sorted.{IsStrictlySortedBy}
use Rattle.std.specs.Option.{is_some, is_none, option_copied}
use Rattle.std.specs.Ordering.{eq_by_cmp, is_eq, is_lt}
use Rattle.std.specs.declared.cmp.Ordering.{Ordering}
use Rattle.std.specs.declared.cmp.Ordering.TheVariants.{Less, Equal, Greater}
use Rattle.std.specs.Cmp.{eq_by_cmp_equiv}
use Rattle.std.specs.Cmp.Lexicographic.{nat_list_cmp_total, nat_list_eq_equiv}
use Rattle.std.proofs.lemmas.Option.{same_Some}
use Rattle.std.proofs.lemmas.Slice.Eq.{bytes_eq-Decides}
use Rattle.std.proofs.lemmas.List.{get_or-take, length-take}
use Rattle.std.proofs.lemmas.List.Elements.{All-nil, All-from_recursion, All-push, All-weaker, All-get_or, All-contains, Contains-append_left, Contains-push, Contains-get_or}
use Rattle.std.proofs.lemmas.Map.Keys.{Less-from_sorted}
use Rattle.std.proofs.lemmas.Map.Views.{list_any-from_Contains, Contains-from_any, tells_apart}
use Rattle.std.proofs.lemmas.Map.Lookups.{exact_bytes}
use Rattle.std.proofs.lemmas.Fmt.{decimal_injective}
use Rattle.node_store.specs.PathsTo.{path_cmp, PathsTo}
use Rattle.node_store.specs.Nodes.{Nodes}
use Rattle.node_store.specs.declared.changes.Node.{Node}
use Rattle.host_model.proofs.Images.{cases_name}
use Rattle.table_store.specs.Numbers.{IsDrawn}
use Rattle.table_store.specs.Tables.{ByName, Tables}
use Rattle.store_layout.specs.Nodes.{instance_path, instance_value, root_path, next_table_path, IsNext, IsNoCounter}
use Rattle.table_store.specs.Layout.{counter_paths, fixed_paths, table_path, table_value, IsTablePath}
use Rattle.table_store.specs.Reading.{HasPath, HasValue, HasNext, IsReading, HasNoReading, IsTableNode, AddsRead, AddsNode, AddsNone, HasTable, IsRead, ReadsPaths, ReadsNone}
use Rattle.table_store.proofs.ValueLemmas.{table_path_injective, table_value_injective}

-- ---- values and counters

pub same_value : (nodes : Nodes) (path one two : List ℕ) → HasValue nodes path one → HasValue nodes path two → one ≡ two
same_value nodes path one two first second = sym first.value_is ∙ ap (λ (n : Node). n.value) (same_Some _ _ (sym first.is ∙ second.is)) ∙ second.value_is

pub same_counter : (nodes : Nodes) (path : List ℕ) (one two : ℕ) → IsNext nodes path one → IsNext nodes path two → one ≡ two
same_counter nodes path one two first second =
    decimal_injective one two (omega (arith, first.value.most)) (omega (arith, second.value.most))
    (sym first.value.is ∙ ap (λ (n : Node). n.value) (same_Some _ _ (sym first.there ∙ second.there)) ∙ second.value.is)

pub no_counter : (nodes : Nodes) (items : List (List ℕ)) (i : ℕ) (path : List ℕ) (found : Option ℕ) → items ≡ counter_paths → i < length items → path ≡ get_or items i path
    → MatchOption found (IsNoCounter nodes path) (IsNext nodes path) → is_none found ≡ true → All (HasNext nodes) counter_paths → ⊥
no_counter nodes items i path None are within is none nothing all =
    let here : HasNext nodes path = subst (HasNext nodes) (sym is) (All-get_or (HasNext nodes) items i path within (subst (λ l. All (HasNext nodes) l) (sym are) all)) in
    none.none here.number here.is
no_counter nodes items i path (Some number) are within is some nothing all = cc

-- ---- the paths that each store has

swapped : (x : List ℕ) (ys : List (List ℕ)) → list_any (λ y. bytes_eq y x) ys ≡ list_any (bytes_eq x) ys
swapped x [] = refl
swapped x (y ∷ ys) = ap (λ b. b || list_any (λ z. bytes_eq z x) ys) (nat_list_eq_equiv.symm y x) ∙ ap (λ b. bytes_eq x y || b) (swapped x ys)

same_bytes : (x y : List ℕ) → bytes_eq x y ≡ true → x ≡ y
same_bytes x y is = (bytes_eq-Decides x y).0 is

pub is_fixed_path : (path : List ℕ) → list_any (λ fixed. bytes_eq fixed path) fixed_paths ≡ true → Contains fixed_paths path
is_fixed_path path is = Contains-from_any same_bytes path fixed_paths (sym (swapped path fixed_paths) ∙ is)

pub not_fixed_path : (path : List ℕ) → list_any (λ fixed. bytes_eq fixed path) fixed_paths ≡ false → Contains fixed_paths path → ⊥
not_fixed_path path is among =
    let found : list_any (bytes_eq path) fixed_paths ≡ true = list_any-from_Contains nat_list_eq_equiv path fixed_paths among in
    let none : list_any (bytes_eq path) fixed_paths ≡ false = sym (swapped path fixed_paths) ∙ is in
    cc

-- no table has such a path
pub table_not_fixed : (id : List ℕ) → Contains fixed_paths (table_path id) → ⊥
table_not_fixed id among = All-contains Other fixed_paths (table_path id) others among refl
  where
    Other : List ℕ → Type 0
    Other path = path ≡ table_path id → ⊥

    second : (path : List ℕ) → path ≡ table_path id → get_or path 1 0 ≡ 116
    second path is = ap (λ (l : List ℕ). get_or l 1 0) is

    -- `t` isn't the second byte of any of these
    other : (path : List ℕ) → (get_or path 1 0 ≡ 116 → ⊥) → Other path
    other path differs is = differs (second path is)

    others : All Other fixed_paths
    others = All-from_recursion Other fixed_paths (other _ (λ e. omega arith), (other _ (λ e. omega arith), (other _ (λ e. omega arith), (other _ (λ e. omega arith), (other _ (λ e. omega arith), (other _ (λ e. omega arith), (other _ (λ e. omega arith), tt)))))))

-- ---- the paths of nodes

pub key_there : {V : Type 0} (nodes : PathsTo V) (path : List ℕ) → Contains (map.keys nodes) path → (node : V) × (map.get nodes path ≡ Some node)
key_there {V} nodes path among = at (map.get nodes path) refl
  where
    found : is_some (map.get nodes path) ≡ true
    found = contains_key-keys nodes path ∙ list_any-from_Contains (eq_by_cmp_equiv nat_list_cmp_total) path (map.keys nodes) among

    at : (o : Option V) → map.get nodes path ≡ o → (node : V) × (map.get nodes path ≡ Some node)
    at None is = let some : is_some (map.get nodes path) ≡ true = found in cc
    at (Some node) is = (node, is)

pub key_among : {V : Type 0} (nodes : PathsTo V) (path : List ℕ) (node : V) → map.get nodes path ≡ Some node → Contains (map.keys nodes) path
key_among nodes path node is = Contains-from_any (tells_apart exact_bytes) path (map.keys nodes) (sym (contains_key-keys nodes path) ∙ ap is_some is)

-- the node of a path that is listed
pub node_there : (nodes : Nodes) (items : List (List ℕ)) (i : ℕ) (path : List ℕ) (o : Option (Bor Node)) → items ≡ map.keys nodes → i < length items → path ≡ get_or items i path → option_copied o ≡ map.get nodes path → IsSome o
node_there nodes items i path None are within is copied =
    let there = key_there nodes path (subst (λ l. Contains l path) are (subst (λ p. Contains items p) (sym is) (Contains-get_or items i path within))) in
    let none : map.get nodes path ≡ None = sym copied in
    let some : map.get nodes path ≡ Some there.0 = there.1 in
    cc
node_there nodes items i path (Some node) are within is copied = refl

pub node_has : (nodes : Nodes) (path : List ℕ) (o : Option (Bor Node)) (node : Bor Node) → option_copied o ≡ map.get nodes path → o ≡ Some node → HasValue nodes path node.now.value
node_has nodes path o node copied is = record { node = node.now; is = sym copied ∙ ap option_copied is; value_is = refl }

pub node_is : (nodes : Nodes) (path : List ℕ) (o : Option (Bor Node)) (node : Bor Node) → option_copied o ≡ map.get nodes path → o ≡ Some node → HasPath nodes path
node_is nodes path o node copied is = record { node = node.now; is = sym copied ∙ ap option_copied is }

split : (a b : Bool) → T (a && b) → T a × T b
split true b p = (tt, p)
split false b p = absurd p

less_of : (o : Ordering) → T (is_lt o) → o ≡ Less
less_of Less p = refl
less_of Equal p = absurd p
less_of Greater p = absurd p

all_behind : {V : Type 0} (k : List ℕ) (es : List (List ℕ × V)) → T (below_all path_cmp k es) → AllByRecursion (λ y. path_cmp k y ≡ Less) (keys_of es)
all_behind k [] below = tt
all_behind k (e ∷ es) below = let two = split (is_lt (path_cmp k e.0)) (below_all path_cmp k es) below in (less_of (path_cmp k e.0) two.0, all_behind k es two.1)

in_order : {V : Type 0} (es : List (List ℕ × V)) → T (is_sorted path_cmp es) → IsStrictlySortedBy path_cmp (keys_of es)
unfolding IsStrictlySortedBy
in_order [] sorted = tt
in_order (e ∷ es) sorted = let two = split (below_all path_cmp e.0 es) (is_sorted path_cmp es) sorted in (all_behind e.0 es two.0, in_order es two.1)

not_before : (x y : List ℕ) → path_cmp x y ≡ Less → x ≡ y → ⊥
not_before x y less same =
    let itself : is_eq (path_cmp y y) ≡ true = (eq_by_cmp_equiv nat_list_cmp_total).refl y in
    let less_itself : path_cmp y y ≡ Less = subst (λ z. path_cmp z y ≡ Less) same less in
    cc

-- a path of nodes stands once
path_once : (nodes : Nodes) (i : ℕ) (path : List ℕ) → i < length (map.keys nodes) → path ≡ get_or (map.keys nodes) i path → Contains (take i (map.keys nodes)) path → ⊥
path_once nodes i path within is among =
    let keys = map.keys nodes in
    let k : ℕ = among.0 in
    let early : k < i = omega (arith, among.1, length-take i keys) in
    let there : get_or keys k path ≡ path = sym (get_or-take i keys k path early) ∙ among.2 in
    not_before (get_or keys k path) (get_or keys i path) (Less-from_sorted path_cmp keys k i path (in_order (map.entries nodes) (entries_sorted nodes)) early within) (there ∙ is)

pub path_new : (nodes : Nodes) (items : List (List ℕ)) (i : ℕ) (path : List ℕ) → items ≡ map.keys nodes → i < length items → path ≡ get_or items i path → Contains (take i items) path → ⊥
path_new nodes items i path are within is among =
    path_once nodes i path (subst (λ l. i < length l) are within) (is ∙ ap (λ l. get_or l i path) are) (subst (λ l. Contains (take i l) path) are among)

-- ---- the tables read so far

pub reads_nothing : (nodes : Nodes) (next : ℕ) (tables : ByName) → tables ≡ map.empty → ReadsPaths nodes next [] tables
reads_nothing nodes next tables is = record {
  each = All-nil (IsRead tables);
  among = λ name id found. absurd (nothing name id found);
  have = λ name id found. absurd (nothing name id found);
}
  where
    nothing : (name id : List ℕ) → map.get tables name ≡ Some id → ⊥
    nothing name id found = let none : map.get tables name ≡ None = ap (λ m. map.get m name) is ∙ get-empty path_cmp name in cc

got_own : (old : ByName) (name id : List ℕ) → map.get (map.insert old name id) name ≡ Some id
got_own old name id = get-insert nat_list_cmp_total old name id name ∙ ap (λ b. cond b (Some id) (map.get old name)) ((eq_by_cmp_equiv nat_list_cmp_total).refl name)

got_other : (old : ByName) (name id other : List ℕ) → other ≢ name → map.get (map.insert old name id) other ≡ map.get old other
got_other old name id other apart = get-insert nat_list_cmp_total old name id other ∙ ap (λ b. cond b (Some id) (map.get old other)) (differs (eq_by_cmp path_cmp other name) refl)
  where
    differs : (b : Bool) → eq_by_cmp path_cmp other name ≡ b → eq_by_cmp path_cmp other name ≡ false
    differs true is = absurd (apart (tells_apart exact_bytes other name is))
    differs false is = is

reads_fixed : (nodes : Nodes) (next : ℕ) (front : List (List ℕ)) (path : List ℕ) (old : ByName) → ReadsPaths nodes next front old → Contains fixed_paths path → ReadsPaths nodes next (front ++ path ∷ []) old
reads_fixed nodes next front path old reads fixed = record {
  each = All-push (IsRead old) front path reads.each (inl fixed);
  among = λ name id found. Contains-append_left front (path ∷ []) (table_path id) (reads.among name id found);
  have = reads.have;
}

reads_table : (nodes : Nodes) (next : ℕ) (front : List (List ℕ)) (path value : List ℕ) (old new : ByName) → ReadsPaths nodes next front old → HasValue nodes path value → AddsRead next path value old new
    → ReadsPaths nodes next (front ++ path ∷ []) new
reads_table nodes next front path value old new reads has adds = record {
  each = All-push (IsRead new) front path (All-weaker (IsRead old) (IsRead new) kept front reads.each) (inr (record { name = adds.name; id = adds.id; path_is = adds.node.path_is; found = own }));
  among = λ name id found. ⊎_elim
      (λ same. subst (λ p. Contains (front ++ path ∷ []) p) (adds.node.path_is ∙ ap table_path (sym (is_id name id found same))) (Contains-push front path))
      (λ apart. Contains-append_left front (path ∷ []) (table_path id) (reads.among name id (was name id found apart)))
      (cases_name name adds.name);
  have = λ name id found. ⊎_elim
      (λ same. subst (λ n. HasTable nodes next n id) (sym same) (subst (λ i. HasTable nodes next adds.name i) (sym (is_id name id found same)) here))
      (λ apart. reads.have name id (was name id found apart))
      (cases_name name adds.name);
}
  where
    own : map.get new adds.name ≡ Some adds.id
    own = ap (λ m. map.get m adds.name) adds.is ∙ got_own old adds.name adds.id

    is_id : (name id : List ℕ) → map.get new name ≡ Some id → name ≡ adds.name → id ≡ adds.id
    is_id name id found same = same_Some _ _ (sym found ∙ ap (λ n. map.get new n) same ∙ own)

    was : (name id : List ℕ) → map.get new name ≡ Some id → name ≢ adds.name → map.get old name ≡ Some id
    was name id found apart = sym (ap (λ m. map.get m name) adds.is ∙ got_other old adds.name adds.id name apart) ∙ found

    here : HasTable nodes next adds.name adds.id
    here = record {
      has = subst (λ v. HasValue nodes (table_path adds.id) v) adds.node.value_is (subst (λ p. HasValue nodes p value) adds.node.path_is has);
      drawn = adds.node.drawn;
      named = adds.node.named;
    }

    stays : (name id : List ℕ) → map.get old name ≡ Some id → map.get new name ≡ Some id
    stays name id found = ap (λ m. map.get m name) adds.is ∙ got_other old adds.name adds.id name (λ same. let none : map.get old name ≡ None = ap (λ n. map.get old n) same ∙ adds.free in cc) ∙ found

    kept : (p : List ℕ) → IsRead old p → IsRead new p
    kept p read = ⊎_elim (λ fixed. inl fixed) (λ t. inr (record { name = t.name; id = t.id; path_is = t.path_is; found = stays t.name t.id t.found })) read

-- one node more
pub reads_more : (nodes : Nodes) (next : ℕ) (front : List (List ℕ)) (path value : List ℕ) (old new : ByName) → ReadsPaths nodes next front old → HasValue nodes path value → AddsNode next path value old new
    → ReadsPaths nodes next (front ++ path ∷ []) new
reads_more nodes next front path value old new reads has adds = ⊎_elim
    (λ fixed. subst (λ t. ReadsPaths nodes next (front ++ path ∷ []) t) (sym fixed.1) (reads_fixed nodes next front path old reads fixed.0))
    (λ table. reads_table nodes next front path value old new reads has table)
    adds

pub free_name : (next : ℕ) (path value : List ℕ) (old : ByName) (one two id other : List ℕ) → IsTableNode next path value one id → map.contains_key old one ≡ true → IsTableNode next path value two other → map.get old two ≡ None → ⊥
free_name next path value old one two id other first taken second free =
    let same : one ≡ two = table_value_injective one two (sym first.value_is ∙ second.value_is) in
    let none : map.get old one ≡ None = ap (λ n. map.get old n) same ∙ free in
    let some : is_some (map.get old one) ≡ true = taken in
    cc

-- a node that is no such, or whose table's name is there
pub reads_none : (nodes : Nodes) (next : ℕ) (front : List (List ℕ)) (path value : List ℕ) (old : ByName) → ReadsPaths nodes next front old → HasValue nodes path value → AddsNone next path value old
    → (Contains front path → ⊥) → ReadsNone nodes next
reads_none nodes next front path value old reads has adds fresh = record { none = λ tables reading is. ⊎_elim adds.fixed (λ t. table tables reading is t) (reading.known path has.node has.is) }
  where
    taken : (tables : Tables) → IsReading nodes tables → (name id : List ℕ) → path ≡ table_path id → map.get tables.by_name name ≡ Some id → (o : Option (List ℕ)) → map.get old name ≡ o → (map.get old name ≡ None → ⊥) → ⊥
    taken tables reading name id path_is found None is not = not is
    taken tables reading name id path_is found (Some other) is not =
        let had = reads.have name other is in
        let listed = reading.listed other had.has.node had.has.is in
        let named : listed.0 ≡ name = table_value_injective listed.0 name (same_value nodes (table_path other) (table_value listed.0) (table_value name) (reading.there listed.0 other listed.1) had.has) in
        let same : other ≡ id = same_Some _ _ (sym listed.1 ∙ ap (λ n. map.get tables.by_name n) named ∙ found) in
        fresh (subst (λ p. Contains front p) (ap table_path same ∙ sym path_is) (reads.among name other is))

    table : (tables : Tables) → IsReading nodes tables → tables.next ≡ next → IsTablePath path → ⊥
    table tables reading is t =
        let listed = reading.listed t.id has.node (sym (ap (λ p. map.get nodes p) t.is) ∙ has.is) in
        let there = reading.there listed.0 t.id listed.1 in
        let node : IsTableNode next path value listed.0 t.id = record {
          path_is = t.is;
          value_is = same_value nodes path value (table_value listed.0) has (subst (λ p. HasValue nodes p (table_value listed.0)) (sym t.is) there);
          drawn = subst (λ n. IsDrawn n t.id) is (reading.ids.drawn listed.0 t.id listed.1);
          named = reading.named listed.0 t.id listed.1;
        } in
        taken tables reading listed.0 t.id t.is listed.1 (map.get old listed.0) refl (adds.free listed.0 t.id node)

-- ---- all the nodes

pub reads_all : (nodes : Nodes) (next : ℕ) (tables : ByName) → HasValue nodes instance_path instance_value → HasPath nodes root_path → All (HasNext nodes) counter_paths → IsNext nodes next_table_path next → ReadsPaths nodes next (map.keys nodes) tables
    → IsReading nodes (record { by_name = tables; next = next })
reads_all nodes next tables instance root counters counter reads = record {
  instance = instance;
  root = root;
  counters = counters;
  next = counter;
  known = λ path node is. ⊎_elim (λ fixed. inl fixed) (λ t. inr (record { id = t.id; is = t.path_is })) (read path node is);
  there = λ name id found. (reads.have name id found).has;
  listed = λ id node is. ⊎_elim
      (λ fixed. absurd (table_not_fixed id fixed))
      (λ t. (t.name, t.found ∙ ap (λ i. Some i) (sym (table_path_injective id t.id t.path_is))))
      (read (table_path id) node is);
  named = λ name id found. (reads.have name id found).named;
  ids = record {
    drawn = λ name id found. (reads.have name id found).drawn;
    differ = λ one two id first second. table_value_injective one two (same_value nodes (table_path id) (table_value one) (table_value two) (reads.have one id first).has (reads.have two id second).has);
  };
}
  where
    read : (path : List ℕ) (node : Node) → map.get nodes path ≡ Some node → IsRead tables path
    read path node is = All-contains (IsRead tables) (map.keys nodes) path reads.each (key_among nodes path node is)

pub none_read : (nodes : Nodes) (next : ℕ) → IsNext nodes next_table_path next → ReadsNone nodes next → HasNoReading nodes
none_read nodes next counter none = record { none = λ tables reading. none.none tables reading (same_counter nodes next_table_path tables.next next reading.next counter) }
