-- The tables of images, and the plain states that tables stand for.
use Rattle.std.proofs.Common.{◌≡◌, ◌≢◌, ◌⊎◌, inl, inr, ⊎_elim, ℕ, ◌&&◌, ◌||◌, nat_eq, Bool, true, false, cond, List, [], ◌∷◌, map as mapped, Option, Some, None, Ok, Err, refl, sym, ◌∙◌, ap, subst}
use Rattle.std.specs.Option.{is_some}
use Rattle.std.specs.List.{list_any}
use Rattle.std.specs.Ordering.{eq_by_cmp, is_eq, is_lt}
use Rattle.std.specs.declared.cmp.Ordering.{Ordering}
use Rattle.std.specs.declared.cmp.Ordering.TheVariants.{Less, Equal, Greater}
use Rattle.std.specs.Cmp.{eq_by_cmp_equiv}
use Rattle.std.specs.Cmp.Lexicographic.{nat_list_cmp_total, pointwise}
use Rattle.std.specs.FinMap as map
use Rattle.std.specs.FinMap.{find, get-entries, get-from_entries, entries_sorted, is_sorted}
use Rattle.std.specs.FinMap.Entries.{below_all}
use Rattle.std.proofs.lemmas.Bool.{false≢true}
use Rattle.std.proofs.lemmas.Option.{same_Some}
use Rattle.std.proofs.lemmas.Slice.Eq.{bytes_eq-Decides}
use Rattle.std.proofs.lemmas.Map.Views.{tells_apart}
use Rattle.std.proofs.lemmas.Map.Lookups.{exact_bytes}
use lib.Dec.{T}
use Rattle.host_model.specs.Picture.{Image}
use Rattle.host_model.proofs.Images.{cases_name}
use Rattle.node_store.specs.PathsTo.{path_cmp}
use Rattle.node_store.specs.Nodes.{Nodes}
use Rattle.node_store.proofs.PathMaps.{same_paths}
use Rattle.node_store.proofs.ImageLemmas.{one_nodes}
use Rattle.plain_model.specs.State.{Table}
use Rattle.plain_model.specs.Apply.{Outcome, has_name, apply}
use Rattle.plain_model.specs.declared.stop.PlainStop.TheVariants.{Exists}
use Rattle.table_store.specs.Numbers.{base36, IsDrawable}
use Rattle.table_store.specs.Tables.{Tables, AreDrawn, bare, plain_of, is_taken, created}
use Rattle.store_layout.specs.Names.{nodes_name}
use Rattle.store_layout.specs.Nodes.{next_table_path}
use Rattle.table_store.specs.Layout.{table_path, table_value}
use Rattle.table_store.specs.Reading.{IsReading}
use Rattle.table_store.specs.Kept.{SaysTables}
use Rattle.plain_model.specs.declared.operation.Op.TheVariants.{Create}
use Rattle.table_store.proofs.ValueLemmas.{table_value_injective}
use Rattle.table_store.proofs.ReadingLemmas.{same_value, same_counter}
use Rattle.table_store.proofs.TablesLemmas.{own_key, other_key, not_there, free_name, drawn_created}

-- ---- one list of tables

-- each table of the one is one of the other
named_alike : (nodes : Nodes) (a b : Tables) → IsReading nodes a → IsReading nodes b → (name id : List ℕ) → map.get a.by_name name ≡ Some id → map.get b.by_name name ≡ Some id
named_alike nodes a b one two name id found =
    let has = one.there name id found in
    let listed = two.listed id has.node has.is in
    let same = table_value_injective name listed.0 (same_value nodes (table_path id) (table_value name) (table_value listed.0) has (two.there listed.0 id listed.1)) in
    ap (λ n. map.get b.by_name n) same ∙ listed.1

alike : (nodes : Nodes) (a b : Tables) → IsReading nodes a → IsReading nodes b → (name : List ℕ) → map.get a.by_name name ≡ map.get b.by_name name
alike nodes a b one two name = at (map.get a.by_name name) (map.get b.by_name name) refl refl
  where
    at : (p q : Option (List ℕ)) → map.get a.by_name name ≡ p → map.get b.by_name name ≡ q → map.get a.by_name name ≡ map.get b.by_name name
    at (Some id) q is other = is ∙ sym (named_alike nodes a b one two name id is)
    at None None is other = is ∙ sym other
    at None (Some id) is other = named_alike nodes b a two one name id other ∙ sym other

pub one_reading : (nodes : Nodes) (a b : Tables) → IsReading nodes a → IsReading nodes b → a ≡ b
one_reading nodes a b one two =
    let names : a.by_name ≡ b.by_name = same_paths a.by_name b.by_name (alike nodes a b one two) in
    let numbers : a.next ≡ b.next = same_counter nodes next_table_path a.next b.next one.next two.next in
    λ i. record { by_name = names i; next = numbers i }

pub one_tables : (image : Image) (a b : Tables) → SaysTables image a → SaysTables image b → a ≡ b
one_tables image a b one two = one_reading two.nodes a b (subst (λ n. IsReading n a) (one_nodes nodes_name image one.nodes two.nodes one.has two.has) one.reading) two.reading

-- ---- entries

abbrev pub In : {V : Type 0} → List ℕ → V → List (List ℕ × V) → Type 0
In k v [] = ⊥
In k v (e ∷ es) = ((e.0 ≡ k) × (e.1 ≡ v)) ⊎ In k v es

parts : (a b : Bool) → T (a && b) → T a × T b
parts true b p = (tt, p)
parts false b p = absurd p

less_apart : (o : Ordering) → T (is_lt o) → is_eq o ≡ true → ⊥
less_apart Less less same = false≢true same
less_apart Equal less same = absurd less
less_apart Greater less same = absurd less

not_Some : {V : Type 0} (v : V) → ◌≡◌ {A = Option V} (Some v) None → ⊥
not_Some v is = cc

pub in_find : {V : Type 0} (k : List ℕ) (v : V) (es : List (List ℕ × V)) → find path_cmp k es ≡ Some v → In k v es
in_find k v [] is = absurd (not_Some v (sym is))
in_find {V} k v (e ∷ es) is = at (λ found. in_find k v es found) (eq_by_cmp path_cmp k e.0) refl is
  where
    at : (find path_cmp k es ≡ Some v → In k v es) → (b : Bool) → eq_by_cmp path_cmp k e.0 ≡ b → cond b (Some e.1) (find path_cmp k es) ≡ Some v → In k v (e ∷ es)
    at later true same found = inl (sym (tells_apart exact_bytes k e.0 same), same_Some _ _ found)
    at later false apart found = inr (later found)

pub in_found : {V : Type 0} (k : List ℕ) (v : V) (es : List (List ℕ × V)) → In k v es → find path_cmp k es ≡ None → ⊥
in_found k v [] among none = among
in_found {V} k v (e ∷ es) among none = ⊎_elim
    (λ same. not_Some e.1 (ap (λ b. cond b (Some e.1) (find path_cmp k es)) (sym (subst (λ q. eq_by_cmp path_cmp k q ≡ true) (sym same.0) ((eq_by_cmp_equiv nat_list_cmp_total).refl k))) ∙ none))
    (λ later. at (λ none. in_found k v es later none) (eq_by_cmp path_cmp k e.0) none)
    among
  where
    at : (find path_cmp k es ≡ None → ⊥) → (b : Bool) → cond b (Some e.1) (find path_cmp k es) ≡ None → ⊥
    at found true none = not_Some e.1 none
    at found false none = found none

below_in : {V : Type 0} (x k : List ℕ) (v : V) (es : List (List ℕ × V)) → T (below_all path_cmp x es) → In k v es → T (is_lt (path_cmp x k))
below_in x k v [] below among = absurd among
below_in x k v (e ∷ es) below among =
    let both = parts (is_lt (path_cmp x e.0)) (below_all path_cmp x es) below in
    ⊎_elim (λ same. subst (λ q. T (is_lt (path_cmp x q))) same.0 both.0) (λ later. below_in x k v es both.1 later) among

pub find_in : {V : Type 0} (k : List ℕ) (v : V) (es : List (List ℕ × V)) → T (is_sorted path_cmp es) → In k v es → find path_cmp k es ≡ Some v
find_in k v [] sorted among = absurd among
find_in {V} k v (e ∷ es) sorted among = ⊎_elim
    (λ same. ap (λ b. cond b (Some e.1) (find path_cmp k es)) (subst (λ q. eq_by_cmp path_cmp k q ≡ true) (sym same.0) ((eq_by_cmp_equiv nat_list_cmp_total).refl k)) ∙ ap (λ x. Some x) same.1)
    (λ later. at later (find_in k v es (parts (below_all path_cmp e.0 es) (is_sorted path_cmp es) sorted).1 later) (eq_by_cmp path_cmp k e.0) refl)
    among
  where
    below : T (below_all path_cmp e.0 es)
    below = (parts (below_all path_cmp e.0 es) (is_sorted path_cmp es) sorted).0

    at : In k v es → find path_cmp k es ≡ Some v → (b : Bool) → eq_by_cmp path_cmp k e.0 ≡ b → cond (eq_by_cmp path_cmp k e.0) (Some e.1) (find path_cmp k es) ≡ Some v
    at later found true same =
        let less = subst (λ q. T (is_lt (path_cmp e.0 q))) (tells_apart exact_bytes k e.0 same) (below_in e.0 k v es below later) in
        absurd (less_apart (path_cmp e.0 e.0) less ((eq_by_cmp_equiv nat_list_cmp_total).refl e.0))
    at later found false apart = ap (λ b. cond b (Some e.1) (find path_cmp k es)) apart ∙ found

-- ---- the tables of a plain state

-- a name for an id, as an entry of the plain state
abbrev turned : List (List ℕ × List ℕ) → List (List ℕ × Table)
turned es = mapped (λ e. (e.1, bare e.0)) es

in_turned : (name id : List ℕ) (es : List (List ℕ × List ℕ)) → In name id es → In id (bare name) (turned es)
in_turned name id [] among = among
in_turned name id (e ∷ es) among = ⊎_elim (λ same. inl (same.1, ap (λ n. bare n) same.0)) (λ later. inr (in_turned name id es later)) among

in_back : (id : List ℕ) (table : Table) (es : List (List ℕ × List ℕ)) → In id table (turned es) → In table.name id es × (table ≡ bare table.name)
in_back id table [] among = absurd among
in_back id table (e ∷ es) among = ⊎_elim
    (λ same. (inl (ap (λ (t : Table). t.name) same.1, same.0), sym same.1 ∙ ap (λ (t : Table). bare t.name) same.1))
    (λ later. let found = in_back id table es later in (inr found.0, found.1))
    among

module _ (tables : Tables) where
  abbrev plain : map.FinMap path_cmp Table
  plain = (plain_of tables).tables

  get_plain : (id : List ℕ) → map.get plain id ≡ find path_cmp id (turned (map.entries tables.by_name))
  get_plain id = get-from_entries nat_list_cmp_total (turned (map.entries tables.by_name)) id

  -- a table of the plain state is one of these, without split points and pairs
  pub plain_from : (id : List ℕ) (table : Table) → map.get plain id ≡ Some table → (map.get tables.by_name table.name ≡ Some id) × (table ≡ bare table.name)
  plain_from id table is =
      let among = in_back id table (map.entries tables.by_name) (in_find id table (turned (map.entries tables.by_name)) (sym (get_plain id) ∙ is)) in
      (get-entries tables.by_name table.name ∙ find_in table.name id (map.entries tables.by_name) (entries_sorted tables.by_name) among.0, among.1)

  module _ (ids : AreDrawn tables) where
    pub stands : (name id : List ℕ) → map.get tables.by_name name ≡ Some id → map.get plain id ≡ Some (bare name)
    stands name id is = at (map.get plain id) refl
      where
        at : (o : Option Table) → map.get plain id ≡ o → map.get plain id ≡ Some (bare name)
        at None none = absurd (in_found id (bare name) (turned (map.entries tables.by_name)) (in_turned name id (map.entries tables.by_name) (in_find name id (map.entries tables.by_name) (sym (get-entries tables.by_name name) ∙ is))) (sym (get_plain id) ∙ none))
        at (Some table) some =
            let found = plain_from id table some in
            some ∙ ap (λ t. Some t) (found.1 ∙ ap (λ n. bare n) (ids.differ table.name name id found.0 is))

-- ---- the names of a plain state

-- one of these tables has the name
abbrev names_any : List ℕ → List (List ℕ × Table) → Bool
names_any name es = list_any (λ (table : Table). pointwise nat_eq name table.name) (mapped (λ e. e.1) es)

any_in : (name : List ℕ) (es : List (List ℕ × Table)) → names_any name es ≡ true → (id : List ℕ) × (table : Table) × In id table es × (table.name ≡ name)
any_in name [] is = absurd (false≢true is)
any_in name (e ∷ es) is = at (λ any. any_in name es any) (pointwise nat_eq name e.1.name) refl is
  where
    at : (names_any name es ≡ true → (id : List ℕ) × (table : Table) × In id table es × (table.name ≡ name)) → (b : Bool) → pointwise nat_eq name e.1.name ≡ b → (b || names_any name es) ≡ true → (id : List ℕ) × (table : Table) × In id table (e ∷ es) × (table.name ≡ name)
    at later true same any = (e.0, e.1, inl (refl, refl), sym ((bytes_eq-Decides name e.1.name).0 same))
    at later false apart any = let there = later any in (there.0, there.1, inr there.2, there.3)

in_any : (id : List ℕ) (table : Table) (es : List (List ℕ × Table)) → In id table es → names_any table.name es ≡ true
in_any id table [] among = absurd among
in_any id table (e ∷ es) among = ⊎_elim
    (λ same. ap (λ b. b || names_any table.name es) ((bytes_eq-Decides table.name e.1.name).1 (ap (λ (t : Table). t.name) (sym same.1))))
    (λ later. at (pointwise nat_eq table.name e.1.name) (in_any id table es later))
    among
  where
    at : (b : Bool) → names_any table.name es ≡ true → (b || names_any table.name es) ≡ true
    at true any = refl
    at false any = any

module _ (tables : Tables) (ids : AreDrawn tables) where
  abbrev listed : List (List ℕ × Table)
  listed = map.entries (plain_of tables).tables

  has_taken : (name : List ℕ) → is_taken name tables ≡ true → has_name name (plain_of tables) ≡ true
  has_taken name taken = at (map.get tables.by_name name) refl
    where
      at : (o : Option (List ℕ)) → map.get tables.by_name name ≡ o → has_name name (plain_of tables) ≡ true
      at None none = absurd (false≢true (sym (ap is_some none) ∙ taken))
      at (Some id) some = in_any id (bare name) listed (in_find id (bare name) listed (sym (get-entries (plain_of tables).tables id) ∙ stands tables ids name id some))

  has_free : (name : List ℕ) → is_taken name tables ≡ false → has_name name (plain_of tables) ≡ false
  has_free name free = at (has_name name (plain_of tables)) refl
    where
      at : (b : Bool) → has_name name (plain_of tables) ≡ b → has_name name (plain_of tables) ≡ false
      at false is = is
      at true is =
          let there = any_in name listed is in
          let found = get-entries (plain_of tables).tables there.0 ∙ find_in there.0 there.1 listed (entries_sorted (plain_of tables).tables) there.2 in
          let named = ap (λ n. map.get tables.by_name n) (sym there.3) ∙ (plain_from tables there.0 there.1 found).0 in
          absurd (not_there tables.by_name name there.0 named (free_name tables name free))

pub taken_refused : (id name : List ℕ) (splits : List (List ℕ)) (tables : Tables) → AreDrawn tables → is_taken name tables ≡ true → apply (Create id name splits) (plain_of tables) ≡ Err Exists
taken_refused id name splits tables ids taken = cond_true (has_name name (plain_of tables)) _ _ (has_taken tables ids name taken)
  where
    cond_true : (b : Bool) (x y : Outcome) → b ≡ true → cond b x y ≡ x
    cond_true b x y is = ap (λ b. cond b x y) is

module _ (name : List ℕ) (tables : Tables) (ids : AreDrawn tables) (drawable : IsDrawable tables.next) (free : is_taken name tables ≡ false) where
  after : AreDrawn (created name tables)
  after = drawn_created tables name ids drawable.positive drawable.below free

  abbrev grown : map.FinMap path_cmp Table
  grown = (plain_of (created name tables)).tables

  abbrev before : map.FinMap path_cmp Table
  before = (plain_of tables).tables

  there : (one id : List ℕ) → map.get tables.by_name one ≡ Some id → map.get grown id ≡ Some (bare one)
  there one id is =
      let apart : one ≢ name = λ same. not_there tables.by_name one id is (ap (λ n. map.get tables.by_name n) same ∙ free_name tables name free) in
      stands (created name tables) after one id (other_key tables.by_name name (base36 tables.next) one apart ∙ is)

  was : (id : List ℕ) (table : Table) → id ≢ base36 tables.next → map.get grown id ≡ Some table → map.get before id ≡ Some table
  was id table apart is =
      let found = plain_from (created name tables) id table is in
      ⊎_elim
      (λ same. absurd (apart (same_Some _ _ (sym found.0 ∙ ap (λ n. map.get (created name tables).by_name n) same ∙ own_key tables.by_name name (base36 tables.next)))))
      (λ other. stands tables ids table.name id (sym (other_key tables.by_name name (base36 tables.next) table.name other) ∙ found.0) ∙ ap (λ t. Some t) (sym found.1))
      (cases_name table.name name)

  elsewhere : (id : List ℕ) → id ≢ base36 tables.next → map.get grown id ≡ map.get before id
  elsewhere id apart = at (map.get grown id) (map.get before id) refl refl
    where
      at : (p q : Option Table) → map.get grown id ≡ p → map.get before id ≡ q → map.get grown id ≡ map.get before id
      at (Some table) q is old = is ∙ sym (was id table apart is)
      at None None is old = is ∙ sym old
      at None (Some table) is old =
          let found = plain_from tables id table old in
          there table.name id found.0 ∙ ap (λ t. Some t) (sym found.1) ∙ sym old

  pub each : (id : List ℕ) → map.get grown id ≡ map.get (map.insert before (base36 tables.next) (bare name)) id
  each id = ⊎_elim
      (λ same. subst (λ i. map.get grown i ≡ map.get (map.insert before (base36 tables.next) (bare name)) i) (sym same)
      (stands (created name tables) after name (base36 tables.next) (own_key tables.by_name name (base36 tables.next)) ∙ sym (own_key before (base36 tables.next) (bare name))))
      (λ apart. elsewhere id apart ∙ sym (other_key before (base36 tables.next) (bare name) id apart))
      (cases_name id (base36 tables.next))

pub created_applied : (name : List ℕ) (tables : Tables) → AreDrawn tables → IsDrawable tables.next → is_taken name tables ≡ false → apply (Create (base36 tables.next) name []) (plain_of tables) ≡ Ok (plain_of (created name tables))
created_applied name tables ids drawable free =
    cond_false (has_name name (plain_of tables)) _ _ (has_free tables ids name free)
    ∙ ap (λ (m : map.FinMap path_cmp Table). Ok (record { tables = m; staged = map.empty })) (sym (same_paths (plain_of (created name tables)).tables (map.insert (plain_of tables).tables (base36 tables.next) (bare name)) (each name tables ids drawable free)))
  where
    cond_false : (b : Bool) (x y : Outcome) → b ≡ false → cond b x y ≡ y
    cond_false b x y is = ap (λ b. cond b x y) is
