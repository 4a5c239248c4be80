-- Histories, names and orders.
use Rattle.std.proofs.Common.{◌≡◌, ◌≢◌, ℕ, ◌&&◌, ◌||◌, Bool, true, false, cond, nat_eq, List, [], ◌∷◌, ◌++◌, map as mapped, Option, Some, None, Result, Ok, Err, Ordering, refl, sym, ◌∙◌, ap, subst}
use Rattle.std.specs.List.{list_any, list_all}
use Rattle.std.specs.Option.{option_and_then, option_map_or, is_some}
use Rattle.std.specs.Result.{result_ok, result_map_both, is_ok}
use Rattle.std.specs.Ordering.{is_lt, is_eq, eq_by_cmp}
use Rattle.std.specs.Cmp.Lexicographic.{pointwise}
use Rattle.std.specs.FinMap as map
use Rattle.std.specs.FinMap.{FinMap, find, is_sorted, entries_sorted, get-entries, get-insert, get-remove, get-empty, same_map}
use Rattle.std.specs.FinMap.Entries.{below_all}
use Rattle.std.proofs.lemmas.Bool.{false≢true}
use Rattle.std.proofs.lemmas.Cmp.{nat_list_cmp_total, tied_itself}
use Rattle.std.proofs.lemmas.Map.Lookups.{exact_bytes}
use Rattle.std.proofs.lemmas.Slice.Eq.{bytes_eq-Decides}
use lib.Dec.{T}
use Rattle.row_keys.specs.RowOrder.{bytes_cmp, is_interval}
use Rattle.plain_model.specs.declared.operation.Op.TheVariants.{Create, Delete, Rename, Split, Merge, DeleteRows, Import, Clone, Insert, Remove, Stage}
use Rattle.plain_model.specs.declared.stop.PlainStop.{PlainStop}
use Rattle.plain_model.specs.declared.stop.PlainStop.TheVariants.{NoTable, Exists, NoStaged, BadRange}
use Rattle.plain_model.specs.State.{Table, PlainState, PairMap, has_point, nothing}
use Rattle.plain_model.specs.Apply.{Outcome, apply, at_table, change_table, put_table, has_name, put_files}
use Rattle.plain_model.specs.History.{after}
use Rattle.plain_model.specs.Laws.{HistoriesJoin, RefusedIsInNoHistory, AreNamedApart, NamesStayApart, HistoriesNameApart, KeysRise, is_rising}
use Rattle.plain_model.proofs.InOrder.{first, second, equal}

-- ---- histories

pub histories_join : HistoriesJoin
histories_join [] more s = refl
histories_join (entry ∷ history) more s = at (histories_join history more) (result_ok (apply entry.op s))
  where
    at : ((next : PlainState) → after (history ++ more) next ≡ option_and_then (after more) (after history next)) → (o : Option PlainState) → option_and_then (after (history ++ more)) o ≡ option_and_then (after more) (option_and_then (after history) o)
    at later None = refl
    at later (Some next) = later next

pub refused : RefusedIsInNoHistory
refused history more entry s reached refusal there is =
    histories_join history (entry ∷ more) s ∙ ap (option_and_then (after (entry ∷ more))) there
    ∙ ap (λ outcome. option_and_then (after more) (result_ok outcome)) is

-- ---- orders

all_below : {K V : Type 0} (R : K → K → Ordering) (k : K) (es : List (K × V)) → T (below_all R k es) → list_all (λ other. is_lt (R k other)) (mapped (λ e. e.0) es) ≡ true
all_below R k [] below = refl
all_below R k (e ∷ es) below = ap (λ b. b && list_all (λ other. is_lt (R k other)) (mapped (λ e. e.0) es)) (is_true (is_lt (R k e.0)) (first _ _ below)) ∙ all_below R k es (second _ _ below)
  where
    is_true : (b : Bool) → T b → b ≡ true
    is_true true holds = refl
    is_true false holds = absurd holds

rises : {K V : Type 0} (R : K → K → Ordering) (es : List (K × V)) → T (is_sorted R es) → is_rising R (mapped (λ e. e.0) es) ≡ true
rises R [] sorted = refl
rises R (e ∷ es) sorted = ap (λ b. b && is_rising R (mapped (λ x. x.0) es)) (all_below R e.0 es (first _ _ sorted)) ∙ rises R es (second _ _ sorted)

pub keys_rise : {K V : Type 0} (R : K → K → Ordering) → KeysRise R V
keys_rise R m = rises R (map.entries m) (entries_sorted m)

-- ---- what an outcome comes from

pub same_Ok : {A : Type 0} (a b : A) → ◌≡◌ {A = Result A PlainStop} (Ok a) (Ok b) → a ≡ b
same_Ok a b is = cc

pub no_Ok : {A P : Type 0} (refusal : PlainStop) (a : A) → ◌≡◌ {A = Result A PlainStop} (Err refusal) (Ok a) → P
no_Ok refusal a is = absurd (false≢true (ap is_ok is))

pub if_ok : {A : Type 0} (b : Bool) (refusal : PlainStop) (outcome : Result A PlainStop) (next : A) → cond b (Err refusal) outcome ≡ Ok next → (b ≡ false) × (outcome ≡ Ok next)
if_ok true refusal outcome next is = no_Ok refusal next is
if_ok false refusal outcome next is = (refl, is)

pub unless_ok : {A : Type 0} (b : Bool) (refusal : PlainStop) (outcome : Result A PlainStop) (next : A) → cond b outcome (Err refusal) ≡ Ok next → (b ≡ true) × (outcome ≡ Ok next)
unless_ok true refusal outcome next is = (refl, is)
unless_ok false refusal outcome next is = no_Ok refusal next is

pub at_ok : (id : List ℕ) (s next : PlainState) (make : Table → Outcome) → at_table id s make ≡ Ok next → (table : Table) × (map.get s.tables id ≡ Some table) × (make table ≡ Ok next)
at_ok id s next make is = at (map.get s.tables id) refl is
  where
    at : (o : Option Table) → map.get s.tables id ≡ o → option_map_or make o (Err NoTable) ≡ Ok next → (table : Table) × (map.get s.tables id ≡ Some table) × (make table ≡ Ok next)
    at None found gives = no_Ok NoTable next gives
    at (Some table) found gives = (table, found, gives)

-- the table before and after
pub change_ok : (id : List ℕ) (s next : PlainState) (make : Table → Result Table PlainStop) → change_table id s make ≡ Ok next
    → (table : Table) × (changed : Table) × (map.get s.tables id ≡ Some table) × (make table ≡ Ok changed) × (put_table id changed s ≡ next)
change_ok id s next make is =
    let found = at_ok id s next (λ table. result_map_both (λ changed. put_table id changed s) (λ refusal. refusal) (make table)) is in
    at found.0 found.1 (make found.0) refl found.2
  where
    at : (table : Table) → map.get s.tables id ≡ Some table → (r : Result Table PlainStop) → make table ≡ r → result_map_both (λ changed. put_table id changed s) (λ refusal. refusal) r ≡ Ok next
        → (before : Table) × (changed : Table) × (map.get s.tables id ≡ Some before) × (make before ≡ Ok changed) × (put_table id changed s ≡ next)
    at table found (Ok changed) made gives = (table, changed, found, made, same_Ok (put_table id changed s) next gives)
    at table found (Err refusal) made gives = no_Ok refusal next gives

-- ---- names

pub same_Some : {A : Type 0} (a b : A) → ◌≡◌ {A = Option A} (Some a) (Some b) → a ≡ b
same_Some a b is = cc

pub no_Some : {A P : Type 0} (a : A) → ◌≡◌ {A = Option A} None (Some a) → P
no_Some a is = absurd (false≢true (ap is_some is))

-- what is found at a key is among the values
pub any_found : {V : Type 0} (test : V → Bool) (k : List ℕ) (v : V) (es : List (List ℕ × V)) → find bytes_cmp k es ≡ Some v → test v ≡ true → list_any test (mapped (λ e. e.1) es) ≡ true
any_found test k v [] found passes = no_Some v found
any_found {V} test k v (e ∷ es) found passes = at (λ later. any_found test k v es later passes) (eq_by_cmp bytes_cmp k e.0) found
  where
    or_true : (b : Bool) → (b || true) ≡ true
    or_true true = refl
    or_true false = refl

    at : (find bytes_cmp k es ≡ Some v → list_any test (mapped (λ e. e.1) es) ≡ true) → (b : Bool) → cond b (Some e.1) (find bytes_cmp k es) ≡ Some v → (test e.1 || list_any test (mapped (λ e. e.1) es)) ≡ true
    at later true is = ap (λ b. b || list_any test (mapped (λ e. e.1) es)) (ap test (same_Some e.1 v is) ∙ passes)
    at later false is = ap (λ b. test e.1 || b) (later is) ∙ or_true (test e.1)

-- a name that no table has isn't a table's
pub unnamed : (name : List ℕ) (s : PlainState) (id : List ℕ) (table : Table) → has_name name s ≡ false → map.get s.tables id ≡ Some table → table.name ≡ name → ⊥
unnamed name s id table free found same =
    false≢true (sym free ∙ any_found (λ t. pointwise nat_eq name t.name) id table (map.entries s.tables) (sym (get-entries s.tables id) ∙ found) ((bytes_eq-Decides name table.name).1 (sym same)))

module _ {V : Type 0} (m : FinMap bytes_cmp V) (k : List ℕ) where
  -- what is found behind an insertion
  pub get_put : (v : V) (q : List ℕ) (u : V) (P : Type 0) → map.get (map.insert m k v) q ≡ Some u → (q ≡ k → u ≡ v → P) → (map.get m q ≡ Some u → P) → P
  get_put v q u P found there elsewhere = at (eq_by_cmp bytes_cmp q k) refl (sym (get-insert nat_list_cmp_total m k v q) ∙ found)
    where
      at : (b : Bool) → eq_by_cmp bytes_cmp q k ≡ b → cond b (Some v) (map.get m q) ≡ Some u → P
      at true same is = there (exact_bytes q k (equal (bytes_cmp q k) same)) (sym (same_Some v u is))
      at false apart is = elsewhere is

  pub get_own : (v : V) → map.get (map.insert m k v) k ≡ Some v
  get_own v = get-insert nat_list_cmp_total m k v k ∙ ap (λ r. cond (is_eq r) (Some v) (map.get m k)) (tied_itself nat_list_cmp_total k)

  pub get_other : (v : V) (q : List ℕ) → q ≢ k → map.get (map.insert m k v) q ≡ map.get m q
  get_other v q apart = get-insert nat_list_cmp_total m k v q ∙ at (eq_by_cmp bytes_cmp q k) refl
    where
      at : (b : Bool) → eq_by_cmp bytes_cmp q k ≡ b → cond b (Some v) (map.get m q) ≡ map.get m q
      at true same = absurd (apart (exact_bytes q k (equal (bytes_cmp q k) same)))
      at false other = refl

  pub put_put : (v w : V) → map.insert (map.insert m k v) k w ≡ map.insert m k w
  put_put v w = same_map nat_list_cmp_total exact_bytes (map.insert (map.insert m k v) k w) (map.insert m k w) (λ q.
      get-insert nat_list_cmp_total (map.insert m k v) k w q ∙ ap (cond (eq_by_cmp bytes_cmp q k) (Some w)) (get-insert nat_list_cmp_total m k v q)
      ∙ twice (eq_by_cmp bytes_cmp q k) (map.get m q) ∙ sym (get-insert nat_list_cmp_total m k w q))
    where
      twice : (b : Bool) (o : Option V) → cond b (Some w) (cond b (Some v) o) ≡ cond b (Some w) o
      twice true o = refl
      twice false o = refl

  pub get_removed : (q : List ℕ) (u : V) → map.get (map.remove m k) q ≡ Some u → map.get m q ≡ Some u
  get_removed q u found = at (eq_by_cmp bytes_cmp q k) (sym (get-remove nat_list_cmp_total m k q) ∙ found)
    where
      at : (b : Bool) → cond b None (map.get m q) ≡ Some u → map.get m q ≡ Some u
      at true is = no_Some u is
      at false is = is

-- a table whose name no other has
put_apart : (s : PlainState) (id : List ℕ) (table : Table) → AreNamedApart s → ((other : List ℕ) (another : Table) → map.get s.tables other ≡ Some another → another.name ≡ table.name → other ≡ id) → AreNamedApart (put_table id table s)
put_apart s id table named alone = record {
  apart = λ one two a b found_one found_two same. get_put s.tables id table one a (one ≡ two) found_one
      (λ at_id is. get_put s.tables id table two b (one ≡ two) found_two (λ also also_is. at_id ∙ sym also) (λ there. at_id ∙ sym (alone two b there (sym same ∙ ap (λ t. t.name) is))))
      (λ here. get_put s.tables id table two b (one ≡ two) found_two (λ at_id is. alone one a here (same ∙ ap (λ t. t.name) is) ∙ sym at_id) (λ there. named.apart one two a b here there same));
}

new_apart : (s : PlainState) (id name : List ℕ) (table : Table) → AreNamedApart s → has_name name s ≡ false → table.name ≡ name → AreNamedApart (put_table id table s)
new_apart s id name table named free is = put_apart s id table named (λ other another found same. absurd (unnamed name s other another free found (same ∙ is)))

-- a table that keeps its name
change_apart : (s next : PlainState) (id : List ℕ) (make : Table → Result Table PlainStop) → ((table changed : Table) → make table ≡ Ok changed → changed.name ≡ table.name) → AreNamedApart s → change_table id s make ≡ Ok next → AreNamedApart next
change_apart s next id make keeps named is =
    let done = change_ok id s next make is in
    subst AreNamedApart done.4 (put_apart s id done.1 named (λ other another found same. named.apart other id another done.0 found done.2 (same ∙ keeps done.0 done.1 done.3)))

-- the name of what is made of a table
pub name_is : {a b : Table} → ◌≡◌ {A = Result Table PlainStop} (Ok a) (Ok b) → b.name ≡ a.name
name_is {a} {b} is = ap (λ t. t.name) (sym (same_Ok a b is))

pub names_apart : NamesStayApart
names_apart (Create id name splits) s next named is =
    let made = if_ok (has_name name s) Exists _ next is in
    subst AreNamedApart (same_Ok _ next made.1) (new_apart s id name _ named made.0 refl)
names_apart (Delete id) s next named is =
    let made = at_ok id s next _ is in
    subst AreNamedApart (same_Ok _ next made.2) (record { apart = λ one two a b found_one found_two same. named.apart one two a b (get_removed s.tables id one a found_one) (get_removed s.tables id two b found_two) same })
names_apart (Rename id name) s next named is =
    let done = change_ok id s next (λ table. cond (has_name name s) (Err Exists) (Ok (record table { name = name }))) is in
    let made = if_ok (has_name name s) Exists (Ok (record done.0 { name = name })) done.1 done.3 in
    subst AreNamedApart done.4 (new_apart s id name done.1 named made.0 (name_is made.1))
names_apart (Split id at) s next named is = change_apart s next id _ (λ table changed made. name_is ((if_ok (has_point table.points at) Exists _ changed made).1)) named is
names_apart (Merge id from to) s next named is = change_apart s next id _ (λ table changed made. name_is ((unless_ok (is_interval from to) BadRange _ changed made).1)) named is
names_apart (DeleteRows id from to) s next named is = change_apart s next id _ (λ table changed made. name_is ((unless_ok (is_interval from to) BadRange _ changed made).1)) named is
names_apart (Import id names) s next named is = change_apart s next id _ (λ table changed made. at table changed (put_files names s.staged table.pairs) made) named is
  where
    at : (table changed : Table) (o : Option PairMap) → option_map_or (λ pairs. Ok (record table { pairs = pairs })) o (Err NoStaged) ≡ Ok changed → changed.name ≡ table.name
    at table changed None made = no_Ok NoStaged changed made
    at table changed (Some pairs) made = name_is made
names_apart (Clone id new_id name) s next named is =
    let found = at_ok id s next _ is in
    let made = if_ok (has_name name s) Exists _ next found.2 in
    subst AreNamedApart (same_Ok _ next made.1) (new_apart s new_id name _ named made.0 refl)
names_apart (Insert id pair) s next named is = change_apart s next id _ (λ table changed made. name_is made) named is
names_apart (Remove id key) s next named is = change_apart s next id _ (λ table changed made. name_is made) named is
names_apart (Stage name pairs) s next named is =
    let made = if_ok (map.contains_key s.staged name) Exists _ next is in
    subst AreNamedApart (same_Ok _ next made.1) (record { apart = named.apart })

pub names_apart_after : HistoriesNameApart
names_apart_after [] s reached named is = subst AreNamedApart (same_Some s reached is) named
names_apart_after (entry ∷ history) s reached named is = at (λ next. names_apart_after history next reached) (apply entry.op s) refl is
  where
    at : ((next : PlainState) → AreNamedApart next → after history next ≡ Some reached → AreNamedApart reached) → (outcome : Outcome) → apply entry.op s ≡ outcome → option_and_then (after history) (result_ok outcome) ≡ Some reached → AreNamedApart reached
    at later (Ok next) done ends = later next (names_apart entry.op s next named done) ends
    at later (Err refusal) stopped ends = no_Some reached ends

pub nothing_apart : AreNamedApart nothing
nothing_apart = record { apart = λ id other table another found also same. no_Some table (sym (get-empty bytes_cmp id) ∙ found) }
