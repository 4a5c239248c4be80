-- Operations that don't meet.
use Rattle.std.proofs.Common.{◌≡◌, ◌≢◌, ◌⊎◌, inl, inr, ⊎_elim, ℕ, Bool, true, false, cond, ◌||◌, nat_eq, List, [], ◌∷◌, map as mapped, Option, Some, None, Result, Ok, Err, refl, sym, ◌∙◌, ap, subst}
use Rattle.std.specs.List.{list_any}
use Rattle.std.specs.Option.{option_map_or, is_some}
use Rattle.std.specs.Result.{result_ok, result_map_both}
use Rattle.std.specs.Ordering.{eq_by_cmp, is_eq}
use Rattle.std.specs.Cmp.{both_ways}
use Rattle.std.specs.Cmp.Lexicographic.{pointwise}
use Rattle.std.specs.FinMap as map
use Rattle.std.specs.FinMap.{FinMap, find, is_sorted, get-entries, get-insert, get-remove, same_map, entries_sorted}
use Rattle.std.proofs.lemmas.Bool.{false≢true}
use Rattle.std.proofs.lemmas.Cmp.{nat_list_cmp_total, tied_itself}
use Rattle.std.proofs.lemmas.Map.Lookups.{exact_bytes}
use Rattle.std.proofs.lemmas.Slice.Eq.{bytes_eq-Decides}
use Rattle.row_keys.specs.RowOrder.{bytes_cmp, is_interval}
use Rattle.plain_model.specs.declared.operation.Op.{Op}
use Rattle.plain_model.specs.declared.operation.Op.TheVariants.{Create, Delete, Rename, Split, Merge, DeleteRows, Import, Clone, Insert, Remove, Stage}
use Rattle.plain_model.specs.declared.stop.PlainStop.{PlainStop}
use Rattle.plain_model.specs.declared.stop.PlainStop.TheVariants.{NoTable, Exists, NoStaged, BadRange}
use Rattle.plain_model.specs.State.{Table, PlainState, PairMap, has_point, with_point, with_points}
use Rattle.plain_model.specs.Apply.{Outcome, apply, change_table, put_table, has_name, put_files, put_all, entries_of, points_outside, pairs_outside}
use Rattle.plain_model.specs.Laws.{followed_by, in_turn}
use Rattle.plain_model.specs.Apart.{tables_of, given_names, unnamed_tables, staged_by, files_of, EachOf, AreDisjoint, AreApart, ApartCommute}
use lib.Dec.{T}
use Rattle.plain_model.proofs.InOrder.{first, second, equal, find_above}
use Rattle.plain_model.proofs.LawsLemmas.{same_Ok, no_Ok, same_Some, no_Some, if_ok, unless_ok, name_is, get_other, any_found}

-- ---- what an operation changes: one table, or one staged file

data Effect : Type 0 where
  ToTable : List ℕ → Option Table → Effect
  ToFile : List ℕ → PairMap → Effect

-- the map with this at the key, or without the key
abbrev with_slot : {V : Type 0} → FinMap bytes_cmp V → List ℕ → Option V → FinMap bytes_cmp V
with_slot m k None = map.remove m k
with_slot m k (Some v) = map.insert m k v

abbrev done : Effect → PlainState → PlainState
done (ToTable id o) s = record s { tables = with_slot s.tables id o }
done (ToFile name pairs) s = record s { staged = map.insert s.staged name pairs }

abbrev realized : Result Effect PlainStop → PlainState → Outcome
realized (Ok effect) s = Ok (done effect s)
realized (Err refusal) s = Err refusal

abbrev table_made : List ℕ → Result Table PlainStop → Result Effect PlainStop
table_made id (Ok table) = Ok (ToTable id (Some table))
table_made id (Err refusal) = Err refusal

abbrev of_table : Option Table → (Table → Result Effect PlainStop) → Result Effect PlainStop
of_table found make = option_map_or make found (Err NoTable)

abbrev effect_of : Op → PlainState → Result Effect PlainStop
effect_of (Create id name splits) s = cond (has_name name s) (Err Exists) (Ok (ToTable id (Some (record { name = name; points = with_points splits map.empty; pairs = map.empty }))))
effect_of (Delete id) s = of_table (map.get s.tables id) (λ table. Ok (ToTable id None))
effect_of (Rename id name) s = of_table (map.get s.tables id) (λ table. table_made id (cond (has_name name s) (Err Exists) (Ok (record table { name = name }))))
effect_of (Split id at) s = of_table (map.get s.tables id) (λ table. table_made id (cond (has_point table.points at) (Err Exists) (Ok (record table { points = with_point table.points at }))))
effect_of (Merge id from to) s = of_table (map.get s.tables id) (λ table. table_made id (cond (is_interval from to) (Ok (record table { points = points_outside from to table.points })) (Err BadRange)))
effect_of (DeleteRows id from to) s = of_table (map.get s.tables id) (λ table. table_made id (cond (is_interval from to) (Ok (record table { points = points_outside from to table.points; pairs = pairs_outside from to table.pairs })) (Err BadRange)))
effect_of (Import id names) s = of_table (map.get s.tables id) (λ table. table_made id (option_map_or (λ pairs. Ok (record table { pairs = pairs })) (put_files names s.staged table.pairs) (Err NoStaged)))
effect_of (Clone id new_id name) s = of_table (map.get s.tables id) (λ table. table_made new_id (cond (has_name name s) (Err Exists) (Ok (record table { name = name }))))
effect_of (Insert id pair) s = of_table (map.get s.tables id) (λ table. table_made id (Ok (record table { pairs = map.insert table.pairs pair.key pair.value })))
effect_of (Remove id key) s = of_table (map.get s.tables id) (λ table. table_made id (Ok (record table { pairs = map.remove table.pairs key })))
effect_of (Stage name pairs) s = cond (map.contains_key s.staged name) (Err Exists) (Ok (ToFile name (put_all (entries_of pairs) map.empty)))

-- ---- each outcome is that of the change

if_realized : (b : Bool) (effect : Effect) (s : PlainState) → cond b (Err Exists) (Ok (done effect s)) ≡ realized (cond b (Err Exists) (Ok effect)) s
if_realized true effect s = refl
if_realized false effect s = refl

made_realized : (id : List ℕ) (r : Result Table PlainStop) (s : PlainState) → result_map_both (λ changed. put_table id changed s) (λ refusal. refusal) r ≡ realized (table_made id r) s
made_realized id (Ok table) s = refl
made_realized id (Err refusal) s = refl

found_realized : (s : PlainState) (o : Option Table) (make : Table → Outcome) (effect : Table → Result Effect PlainStop) → ((table : Table) → make table ≡ realized (effect table) s) → option_map_or make o (Err NoTable) ≡ realized (of_table o effect) s
found_realized s None make effect each = refl
found_realized s (Some table) make effect each = each table

changes : (id : List ℕ) (s : PlainState) (make : Table → Result Table PlainStop) → change_table id s make ≡ realized (of_table (map.get s.tables id) (λ table. table_made id (make table))) s
changes id s make = found_realized s (map.get s.tables id) _ (λ table. table_made id (make table)) (λ table. made_realized id (make table) s)

clone_realized : (new_id : List ℕ) (b : Bool) (table : Table) (s : PlainState) → cond b (Err Exists) (Ok (put_table new_id table s)) ≡ realized (table_made new_id (cond b (Err Exists) (Ok table))) s
clone_realized new_id true table s = refl
clone_realized new_id false table s = refl

apply-effect : (op : Op) (s : PlainState) → apply op s ≡ realized (effect_of op s) s
apply-effect (Create id name splits) s = if_realized (has_name name s) (ToTable id (Some (record { name = name; points = with_points splits map.empty; pairs = map.empty }))) s
apply-effect (Delete id) s = found_realized s (map.get s.tables id) _ (λ table. Ok (ToTable id None)) (λ table. refl)
apply-effect (Rename id name) s = changes id s _
apply-effect (Split id at) s = changes id s _
apply-effect (Merge id from to) s = changes id s _
apply-effect (DeleteRows id from to) s = changes id s _
apply-effect (Import id names) s = changes id s _
apply-effect (Clone id new_id name) s = found_realized s (map.get s.tables id) _ (λ table. table_made new_id (cond (has_name name s) (Err Exists) (Ok (record table { name = name })))) (λ table. clone_realized new_id (has_name name s) (record table { name = name }) s)
apply-effect (Insert id pair) s = changes id s (λ table. Ok (record table { pairs = map.insert table.pairs pair.key pair.value }))
apply-effect (Remove id key) s = changes id s (λ table. Ok (record table { pairs = map.remove table.pairs key }))
apply-effect (Stage name pairs) s = if_realized (map.contains_key s.staged name) (ToFile name (put_all (entries_of pairs) map.empty)) s

-- ---- what an operation sees of a state

record Sees (op : Op) (s t : PlainState) : Type 0 where
  tables : EachOf (λ id. map.get t.tables id ≡ map.get s.tables id) (tables_of op)
  names : EachOf (λ name. has_name name t ≡ has_name name s) (given_names op)
  files : EachOf (λ name. map.get t.staged name ≡ map.get s.staged name) (files_of op)

same_files : (s t : PlainState) (names : List (List ℕ)) (pairs : PairMap) → EachOf (λ name. map.get t.staged name ≡ map.get s.staged name) names → put_files names t.staged pairs ≡ put_files names s.staged pairs
same_files s t [] pairs same = refl
same_files s t (name ∷ names) pairs same =
    ap (λ o. option_map_or (λ file. put_files names t.staged (put_all (map.entries file) pairs)) o None) same.0
    ∙ at (λ next. same_files s t names next same.1) (map.get s.staged name)
  where
    at : ((next : PairMap) → put_files names t.staged next ≡ put_files names s.staged next) → (o : Option PairMap) → option_map_or (λ file. put_files names t.staged (put_all (map.entries file) pairs)) o None ≡ option_map_or (λ file. put_files names s.staged (put_all (map.entries file) pairs)) o None
    at later None = refl
    at later (Some file) = later (put_all (map.entries file) pairs)

each_found : (o : Option Table) (one other : Table → Result Effect PlainStop) → ((table : Table) → one table ≡ other table) → of_table o one ≡ of_table o other
each_found None one other same = refl
each_found (Some table) one other same = same table

-- what it does depends on what it sees
same_effect : (op : Op) (s t : PlainState) → Sees op s t → effect_of op t ≡ effect_of op s
same_effect (Create id name splits) s t sees = ap (λ b. cond b (Err Exists) (Ok (ToTable id (Some (record { name = name; points = with_points splits map.empty; pairs = map.empty }))))) sees.names.0
same_effect (Delete id) s t sees = ap (λ o. of_table o (λ table. Ok (ToTable id None))) sees.tables.0
same_effect (Rename id name) s t sees = λ i. of_table (sees.tables.0 i) (λ table. table_made id (cond (sees.names.0 i) (Err Exists) (Ok (record table { name = name }))))
same_effect (Split id at) s t sees = ap (λ o. of_table o (λ table. table_made id (cond (has_point table.points at) (Err Exists) (Ok (record table { points = with_point table.points at }))))) sees.tables.0
same_effect (Merge id from to) s t sees = ap (λ o. of_table o (λ table. table_made id (cond (is_interval from to) (Ok (record table { points = points_outside from to table.points })) (Err BadRange)))) sees.tables.0
same_effect (DeleteRows id from to) s t sees = ap (λ o. of_table o (λ table. table_made id (cond (is_interval from to) (Ok (record table { points = points_outside from to table.points; pairs = pairs_outside from to table.pairs })) (Err BadRange)))) sees.tables.0
same_effect (Import id names) s t sees =
    ap (λ o. of_table o (λ table. table_made id (option_map_or (λ pairs. Ok (record table { pairs = pairs })) (put_files names t.staged table.pairs) (Err NoStaged)))) sees.tables.0
    ∙ each_found (map.get s.tables id) _ _ (λ table. ap (λ o. table_made id (option_map_or (λ pairs. Ok (record table { pairs = pairs })) o (Err NoStaged))) (same_files s t names table.pairs sees.files))
same_effect (Clone id new_id name) s t sees = λ i. of_table (sees.tables.1.0 i) (λ table. table_made new_id (cond (sees.names.0 i) (Err Exists) (Ok (record table { name = name }))))
same_effect (Insert id pair) s t sees = ap (λ o. of_table o (λ table. table_made id (Ok (record table { pairs = map.insert table.pairs pair.key pair.value })))) sees.tables.0
same_effect (Remove id key) s t sees = ap (λ o. of_table o (λ table. table_made id (Ok (record table { pairs = map.remove table.pairs key })))) sees.tables.0
same_effect (Stage name pairs) s t sees = ap (λ o. cond (is_some o) (Err Exists) (Ok (ToFile name (put_all (entries_of pairs) map.empty)))) sees.files.0

-- ---- lists

abbrev IsIn : List ℕ → List (List ℕ) → Type 0
IsIn x [] = ⊥
IsIn x (y ∷ ys) = (x ≡ y) ⊎ IsIn x ys

all_of : (P : List ℕ → Type 0) → ((x : List ℕ) → P x) → (xs : List (List ℕ)) → EachOf P xs
all_of P each [] = tt
all_of P each (x ∷ xs) = (each x, all_of P each xs)

weaker : (P Q : List ℕ → Type 0) → ((x : List ℕ) → P x → Q x) → (xs : List (List ℕ)) → EachOf P xs → EachOf Q xs
weaker P Q then_q [] each = tt
weaker P Q then_q (x ∷ xs) each = (then_q x each.0, weaker P Q then_q xs each.1)

one_of : (P : List ℕ → Type 0) (x : List ℕ) (xs : List (List ℕ)) → EachOf P xs → IsIn x xs → P x
one_of P x [] each among = absurd among
one_of P x (y ∷ ys) each among = ⊎_elim (λ same. subst P (sym same) each.0) (λ later. one_of P x ys each.1 later) among

with_first : (x : List ℕ) (xs ys : List (List ℕ)) → EachOf (λ y. y ≢ x) ys → AreDisjoint ys xs → AreDisjoint ys (x ∷ xs)
with_first x xs [] first rest = tt
with_first x xs (y ∷ ys) first rest = ((first.0, rest.0), with_first x xs ys first.1 rest.1)

disjoint_back : (xs ys : List (List ℕ)) → AreDisjoint xs ys → AreDisjoint ys xs
disjoint_back [] ys apart = all_of (λ y. EachOf (λ x. y ≢ x) []) (λ y. tt) ys
disjoint_back (x ∷ xs) ys apart = with_first x xs ys (weaker (λ y. x ≢ y) (λ y. y ≢ x) (λ y differ same. differ (sym same)) ys apart.0) (disjoint_back xs ys apart.1)

turned_round : (a b : Op) (s : PlainState) → AreApart a b s → AreApart b a s
turned_round a b s apart = record {
  tables = disjoint_back (tables_of a) (tables_of b) apart.tables;
  names = disjoint_back (given_names a) (given_names b) apart.names;
  names_of_first = apart.names_of_second;
  names_of_second = apart.names_of_first;
  files_of_first = apart.files_of_second;
  files_of_second = apart.files_of_first;
}

-- ---- names

or_cases : (a b : Bool) → (a || b) ≡ true → (a ≡ true) ⊎ (b ≡ true)
or_cases true b is = inl refl
or_cases false b is = inr is

some_named : (test : Table → Bool) (es : List (List ℕ × Table)) → T (is_sorted bytes_cmp es) → list_any test (mapped (λ e. e.1) es) ≡ true → (id : List ℕ) × (table : Table) × (find bytes_cmp id es ≡ Some table) × (test table ≡ true)
some_named test [] sorted any = absurd (false≢true any)
some_named test (e ∷ es) sorted any = ⊎_elim
    (λ here. (e.0, e.1, ap (λ r. cond (is_eq r) (Some e.1) (find bytes_cmp e.0 es)) (tied_itself nat_list_cmp_total e.0), here))
    (λ later. let found = some_named test es (second _ _ sorted) later in (found.0, found.1, behind found.0 found.1 found.2, found.3))
    (or_cases (test e.1) (list_any test (mapped (λ x. x.1) es)) any)
  where
    behind : (id : List ℕ) (table : Table) → find bytes_cmp id es ≡ Some table → find bytes_cmp id (e ∷ es) ≡ Some table
    behind id table found = at (eq_by_cmp bytes_cmp id e.0) refl
      where
        at : (b : Bool) → eq_by_cmp bytes_cmp id e.0 ≡ b → cond b (Some e.1) (find bytes_cmp id es) ≡ Some table
        at true same = no_Some table (sym (find_above bytes_cmp nat_list_cmp_total id e.0 es (equal (bytes_cmp id e.0) same) (first _ _ sorted)) ∙ found)
        at false other = found

named_is : (name : List ℕ) (s : PlainState) → has_name name s ≡ true → (id : List ℕ) × (table : Table) × (map.get s.tables id ≡ Some table) × (table.name ≡ name)
named_is name s named =
    let found = some_named (λ table. pointwise nat_eq name table.name) (map.entries s.tables) (entries_sorted s.tables) named in
    (found.0, found.1, get-entries s.tables found.0 ∙ found.2, sym ((bytes_eq-Decides name found.1.name).0 found.3))

named_from : (name : List ℕ) (s : PlainState) (id : List ℕ) (table : Table) → map.get s.tables id ≡ Some table → table.name ≡ name → has_name name s ≡ true
named_from name s id table found is = any_found (λ t. pointwise nat_eq name t.name) id table (map.entries s.tables) (sym (get-entries s.tables id) ∙ found) ((bytes_eq-Decides name table.name).1 (sym is))

same_names : (name : List ℕ) (s t : PlainState) → ((id : List ℕ) (table : Table) → map.get t.tables id ≡ Some table → table.name ≡ name → has_name name s ≡ true)
    → ((id : List ℕ) (table : Table) → map.get s.tables id ≡ Some table → table.name ≡ name → has_name name t ≡ true) → has_name name t ≡ has_name name s
same_names name s t back on = both_ways (has_name name t) (has_name name s)
    (λ named. let found = named_is name t named in back found.0 found.1 found.2 found.3)
    (λ named. let found = named_is name s named in on found.0 found.1 found.2 found.3)

-- a key is this one or another
one_or_other : (q k : List ℕ) → (q ≡ k) ⊎ (q ≢ k)
one_or_other q k = at (pointwise nat_eq q k) refl
  where
    at : (b : Bool) → pointwise nat_eq q k ≡ b → (q ≡ k) ⊎ (q ≢ k)
    at true is = inl ((bytes_eq-Decides q k).0 is)
    at false is = inr (λ same. false≢true (sym is ∙ (bytes_eq-Decides q k).1 same))

get_slot : {V : Type 0} (m : FinMap bytes_cmp V) (k : List ℕ) (o : Option V) (q : List ℕ) → map.get (with_slot m k o) q ≡ cond (eq_by_cmp bytes_cmp q k) o (map.get m q)
get_slot m k None q = get-remove nat_list_cmp_total m k q
get_slot m k (Some v) q = get-insert nat_list_cmp_total m k v q

slot_swap : {V : Type 0} (m : FinMap bytes_cmp V) (k l : List ℕ) (o p : Option V) → k ≢ l → with_slot (with_slot m k o) l p ≡ with_slot (with_slot m l p) k o
slot_swap {V} m k l o p apart = same_map nat_list_cmp_total exact_bytes (with_slot (with_slot m k o) l p) (with_slot (with_slot m l p) k o) (λ q.
    get_slot (with_slot m k o) l p q ∙ ap (cond (eq_by_cmp bytes_cmp q l) p) (get_slot m k o q)
    ∙ at q (eq_by_cmp bytes_cmp q k) (eq_by_cmp bytes_cmp q l) refl refl
    ∙ sym (get_slot (with_slot m l p) k o q ∙ ap (cond (eq_by_cmp bytes_cmp q k) o) (get_slot m l p q)))
  where
    at : (q : List ℕ) (b c : Bool) → eq_by_cmp bytes_cmp q k ≡ b → eq_by_cmp bytes_cmp q l ≡ c → cond c p (cond b o (map.get m q)) ≡ cond b o (cond c p (map.get m q))
    at q true true one other = absurd (apart (sym (exact_bytes q k (equal (bytes_cmp q k) one)) ∙ exact_bytes q l (equal (bytes_cmp q l) other)))
    at q true false one other = refl
    at q false c one other = refl

-- another table is as it was
elsewhere : (s : PlainState) (id : List ℕ) (o : Option Table) (q : List ℕ) → q ≢ id → map.get (done (ToTable id o) s).tables q ≡ map.get s.tables q
elsewhere s id o q apart = get_slot s.tables id o q ∙ at (eq_by_cmp bytes_cmp q id) refl
  where
    at : (b : Bool) → eq_by_cmp bytes_cmp q id ≡ b → cond b o (map.get s.tables q) ≡ map.get s.tables q
    at true same = absurd (apart (exact_bytes q id (equal (bytes_cmp q id) same)))
    at false other = refl

there : (s : PlainState) (id : List ℕ) (o : Option Table) → map.get (done (ToTable id o) s).tables id ≡ o
there s id o = get_slot s.tables id o id ∙ ap (λ r. cond (is_eq r) o (map.get s.tables id)) (tied_itself nat_list_cmp_total id)

module _ (s : PlainState) (id : List ℕ) (o : Option Table) (name : List ℕ) where
  -- from the tables before and behind, where what stands at the id has the name just where it had it
  names_kept : ((table : Table) → o ≡ Some table → table.name ≡ name → has_name name s ≡ true) → ((table : Table) → map.get s.tables id ≡ Some table → table.name ≡ name → has_name name (done (ToTable id o) s) ≡ true)
      → has_name name (done (ToTable id o) s) ≡ has_name name s
  names_kept back on = same_names name s (done (ToTable id o) s)
      (λ q table found is. ⊎_elim
      (λ same. back table (sym (there s id o) ∙ ap (map.get (done (ToTable id o) s).tables) (sym same) ∙ found) is)
      (λ apart. named_from name s q table (sym (elsewhere s id o q apart) ∙ found) is)
      (one_or_other q id))
      (λ q table found is. ⊎_elim
      (λ same. on table (ap (map.get s.tables) (sym same) ∙ found) is)
      (λ apart. named_from name (done (ToTable id o) s) q table (elsewhere s id o q apart ∙ found) is)
      (one_or_other q id))

-- ---- what a change is made by

abbrev KeepsName : PlainState → List ℕ → Option Table → Type 0
KeepsName s id o = (old : Table) × (new : Table) × (o ≡ Some new) × (map.get s.tables id ≡ Some old) × (new.name ≡ old.name)

abbrev ChangesName : Op → List ℕ → Option Table → Type 0
ChangesName op id o = IsIn id (unnamed_tables op) × ((new : Table) → o ≡ Some new → IsIn new.name (given_names op))

abbrev MadeBy : Op → PlainState → Effect → Type 0
MadeBy op s (ToTable id o) = IsIn id (tables_of op) × (KeepsName s id o ⊎ ChangesName op id o)
MadeBy op s (ToFile name pairs) = IsIn name (staged_by op) × IsIn name (files_of op)

found_ok : (s : PlainState) (id : List ℕ) (make : Table → Result Effect PlainStop) (e : Effect) → of_table (map.get s.tables id) make ≡ Ok e → (table : Table) × (map.get s.tables id ≡ Some table) × (make table ≡ Ok e)
found_ok s id make e is = at (map.get s.tables id) refl is
  where
    at : (o : Option Table) → map.get s.tables id ≡ o → of_table o make ≡ Ok e → (table : Table) × (map.get s.tables id ≡ Some table) × (make table ≡ Ok e)
    at None found gives = no_Ok NoTable e gives
    at (Some table) found gives = (table, found, gives)

made_ok : (id : List ℕ) (r : Result Table PlainStop) (e : Effect) → table_made id r ≡ Ok e → (changed : Table) × (r ≡ Ok changed) × (ToTable id (Some changed) ≡ e)
made_ok id (Ok changed) e is = (changed, refl, same_Ok (ToTable id (Some changed)) e is)
made_ok id (Err refusal) e is = no_Ok refusal e is

keeps : (op : Op) (s : PlainState) (e : Effect) (id : List ℕ) (make : Table → Result Table PlainStop) → IsIn id (tables_of op) → ((table changed : Table) → make table ≡ Ok changed → changed.name ≡ table.name)
    → of_table (map.get s.tables id) (λ table. table_made id (make table)) ≡ Ok e → MadeBy op s e
keeps op s e id make among same is =
    let found = found_ok s id (λ table. table_made id (make table)) e is in
    let made = made_ok id (make found.0) e found.2 in
    subst (MadeBy op s) made.2 (among, inl (found.0, made.0, refl, found.1, same found.0 made.0 made.1))

gives : (op : Op) (s : PlainState) (id : List ℕ) (table : Table) → IsIn id (tables_of op) → IsIn id (unnamed_tables op) → IsIn table.name (given_names op) → MadeBy op s (ToTable id (Some table))
gives op s id table among unnamed given = (among, inr (unnamed, λ new is. subst (λ t. IsIn t.name (given_names op)) (same_Some table new is) given))

made_by : (op : Op) (s : PlainState) (e : Effect) → effect_of op s ≡ Ok e → MadeBy op s e
made_by (Create id name splits) s e is =
    let made = if_ok (has_name name s) Exists _ e is in
    subst (MadeBy (Create id name splits) s) (same_Ok _ e made.1) (gives (Create id name splits) s id _ (inl refl) (inl refl) (inl refl))
made_by (Delete id) s e is =
    let found = found_ok s id (λ table. Ok (ToTable id None)) e is in
    subst (MadeBy (Delete id) s) (same_Ok (ToTable id None) e found.2) (inl refl, inr (inl refl, λ new some. no_Some new some))
made_by (Rename id name) s e is =
    let found = found_ok s id (λ table. table_made id (cond (has_name name s) (Err Exists) (Ok (record table { name = name })))) e is in
    let made = made_ok id _ e found.2 in
    subst (MadeBy (Rename id name) s) made.2 (gives (Rename id name) s id made.0 (inl refl) (inl refl) (inl (name_is (if_ok (has_name name s) Exists (Ok (record found.0 { name = name })) made.0 made.1).1)))
made_by (Split id at) s e is = keeps (Split id at) s e id _ (inl refl) (λ table changed made. name_is ((if_ok (has_point table.points at) Exists _ changed made).1)) is
made_by (Merge id from to) s e is = keeps (Merge id from to) s e id _ (inl refl) (λ table changed made. name_is ((unless_ok (is_interval from to) BadRange _ changed made).1)) is
made_by (DeleteRows id from to) s e is = keeps (DeleteRows id from to) s e id _ (inl refl) (λ table changed made. name_is ((unless_ok (is_interval from to) BadRange _ changed made).1)) is
made_by (Import id names) s e is = keeps (Import id names) s e id _ (inl refl) (λ table changed made. at table changed (put_files names s.staged table.pairs) made) is
  where
    at : (table changed : Table) (o : Option PairMap) → option_map_or (λ pairs. Ok (record table { pairs = pairs })) o (Err NoStaged) ≡ Ok changed → changed.name ≡ table.name
    at table changed None made = no_Ok NoStaged changed made
    at table changed (Some pairs) made = name_is made
made_by (Clone id new_id name) s e is =
    let found = found_ok s id (λ table. table_made new_id (cond (has_name name s) (Err Exists) (Ok (record table { name = name })))) e is in
    let made = made_ok new_id _ e found.2 in
    subst (MadeBy (Clone id new_id name) s) made.2 (gives (Clone id new_id name) s new_id made.0 (inl refl) (inl refl) (inl (name_is (if_ok (has_name name s) Exists (Ok (record found.0 { name = name })) made.0 made.1).1)))
made_by (Insert id pair) s e is = keeps (Insert id pair) s e id (λ table. Ok (record table { pairs = map.insert table.pairs pair.key pair.value })) (inl refl) (λ table changed made. name_is made) is
made_by (Remove id key) s e is = keeps (Remove id key) s e id (λ table. Ok (record table { pairs = map.remove table.pairs key })) (inl refl) (λ table changed made. name_is made) is
made_by (Stage name pairs) s e is =
    let made = if_ok (map.contains_key s.staged name) Exists _ e is in
    subst (MadeBy (Stage name pairs) s) (same_Ok _ e made.1) (inl refl, inl refl)

-- ---- what one operation changes, the other one doesn't see

each_in : (P : List ℕ → Type 0) (xs : List (List ℕ)) → ((x : List ℕ) → IsIn x xs → P x) → EachOf P xs
each_in P [] each = tt
each_in P (x ∷ xs) each = (each x (inl refl), each_in P xs (λ y among. each y (inr among)))

module _ (a b : Op) (s : PlainState) (apart : AreApart a b s) where
  differ_table : (id : List ℕ) → IsIn id (tables_of a) → EachOf (λ y. id ≢ y) (tables_of b)
  differ_table id among = one_of (λ x. EachOf (λ y. x ≢ y) (tables_of b)) id (tables_of a) apart.tables among

  differ_file : (name : List ℕ) → IsIn name (staged_by a) → EachOf (λ y. name ≢ y) (files_of b)
  differ_file name among = one_of (λ x. EachOf (λ y. x ≢ y) (files_of b)) name (staged_by a) apart.files_of_first among

  same_name : (id : List ℕ) (o : Option Table) → (KeepsName s id o ⊎ ChangesName a id o) → (name : List ℕ) → IsIn name (given_names b) → has_name name (done (ToTable id o) s) ≡ has_name name s
  same_name id o how name among = ⊎_elim
      (λ kept. names_kept s id o name
      (λ table is same. named_from name s id kept.0 kept.3 (sym kept.4 ∙ ap (λ t. t.name) (same_Some kept.1 table (sym kept.2 ∙ is)) ∙ same))
      (λ table is same. named_from name (done (ToTable id o) s) id kept.1 (there s id o ∙ kept.2) (kept.4 ∙ ap (λ t. t.name) (same_Some kept.0 table (sym kept.3 ∙ is)) ∙ same)))
      (λ changed. names_kept s id o name
      (λ table is same. absurd (one_of (λ y. table.name ≢ y) name (given_names b) (one_of (λ x. EachOf (λ y. x ≢ y) (given_names b)) table.name (given_names a) apart.names (changed.1 table is)) among same))
      (λ table is same. absurd (one_of (λ n. (t : Table) → map.get s.tables id ≡ Some t → t.name ≢ n) name (given_names b)
      (one_of (λ x. EachOf (λ n. (t : Table) → map.get s.tables x ≡ Some t → t.name ≢ n) (given_names b)) id (unnamed_tables a) apart.names_of_first changed.0) among table is same)))
      how

  unseen : (e : Effect) → MadeBy a s e → Sees b s (done e s)
  unseen (ToTable id o) made = record {
    tables = weaker (λ y. id ≢ y) (λ y. map.get (with_slot s.tables id o) y ≡ map.get s.tables y) (λ y differ. elsewhere s id o y (λ same. differ (sym same))) (tables_of b) (differ_table id made.0);
    names = each_in (λ name. has_name name (done (ToTable id o) s) ≡ has_name name s) (given_names b) (same_name id o made.1);
    files = all_of (λ name. map.get s.staged name ≡ map.get s.staged name) (λ name. refl) (files_of b);
  }
  unseen (ToFile name pairs) made = record {
    tables = all_of (λ id. map.get s.tables id ≡ map.get s.tables id) (λ id. refl) (tables_of b);
    names = all_of (λ n. has_name n s ≡ has_name n s) (λ n. refl) (given_names b);
    files = weaker (λ y. name ≢ y) (λ y. map.get (map.insert s.staged name pairs) y ≡ map.get s.staged y) (λ y differ. get_other s.staged name pairs y (λ same. differ (sym same))) (files_of b) (differ_file name made.0);
  }

  swapped : (e f : Effect) → MadeBy a s e → MadeBy b s f → done f (done e s) ≡ done e (done f s)
  swapped (ToTable id o) (ToTable other p) one two =
      ap (λ tables. record s { tables = tables }) (slot_swap s.tables id other o p (one_of (λ y. id ≢ y) other (tables_of b) (differ_table id one.0) two.0))
  swapped (ToTable id o) (ToFile name pairs) one two = refl
  swapped (ToFile name pairs) (ToTable id o) one two = refl
  swapped (ToFile name pairs) (ToFile other more) one two =
      ap (λ staged. record s { staged = staged }) (slot_swap s.staged name other (Some pairs) (Some more) (one_of (λ y. name ≢ y) other (files_of b) (differ_file name one.0) two.1))

-- ---- both orders

stopped : (a b : Op) (s : PlainState) (refusal : PlainStop) → effect_of a s ≡ Err refusal → in_turn a b s ≡ Err refusal
stopped a b s refusal is = ap (λ outcome. followed_by outcome b) (apply-effect a s ∙ ap (λ r. realized r s) is)

goes_on : (a b : Op) (s : PlainState) (e : Effect) → effect_of a s ≡ Ok e → Sees b s (done e s) → in_turn a b s ≡ realized (effect_of b s) (done e s)
goes_on a b s e is sees =
    ap (λ outcome. followed_by outcome b) (apply-effect a s ∙ ap (λ r. realized r s) is)
    ∙ apply-effect b (done e s) ∙ ap (λ r. realized r (done e s)) (same_effect b s (done e s) sees)

pub apart_commute : ApartCommute
apart_commute a b s apart = at (effect_of a s) (effect_of b s) refl refl
  where
    back : AreApart b a s
    back = turned_round a b s apart

    at : (one two : Result Effect PlainStop) → effect_of a s ≡ one → effect_of b s ≡ two → result_ok (in_turn a b s) ≡ result_ok (in_turn b a s)
    at (Err refusal) (Err other) is_a is_b = ap result_ok (stopped a b s refusal is_a) ∙ sym (ap result_ok (stopped b a s other is_b))
    at (Err refusal) (Ok f) is_a is_b =
        ap result_ok (stopped a b s refusal is_a)
        ∙ sym (ap result_ok (goes_on b a s f is_b (unseen b a s back f (made_by b s f is_b)) ∙ ap (λ r. realized r (done f s)) is_a))
    at (Ok e) (Err other) is_a is_b =
        ap result_ok (goes_on a b s e is_a (unseen a b s apart e (made_by a s e is_a)) ∙ ap (λ r. realized r (done e s)) is_b)
        ∙ sym (ap result_ok (stopped b a s other is_b))
    at (Ok e) (Ok f) is_a is_b =
        ap result_ok (goes_on a b s e is_a (unseen a b s apart e (made_by a s e is_a)) ∙ ap (λ r. realized r (done e s)) is_b)
        ∙ ap (λ t. Some t) (swapped a b s apart e f (made_by a s e is_a) (made_by b s f is_b))
        ∙ sym (ap result_ok (goes_on b a s f is_b (unseen b a s back f (made_by b s f is_b)) ∙ ap (λ r. realized r (done f s)) is_a))
