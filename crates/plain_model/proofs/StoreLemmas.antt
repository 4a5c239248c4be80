-- What is done in a plain store.
use Rattle.std.proofs.Common.{◌≡◌, ℕ, ◌||◌, nat_eq, List, [], ◌∷◌, set, get_or, map as mapped, Result, Ok, Err, refl, sym, ◌∙◌, ap, subst}
use Rattle.std.specs.Prelude.{OnOk, OnErr}
use Rattle.std.specs.List.{list_any}
use Rattle.std.specs.Option.{option_map_or}
use Rattle.std.specs.Result.{result_map_both}
use Rattle.std.specs.declared.cmp.Ordering.{Ordering}
use Rattle.std.specs.declared.alloc.AllocError.{AllocError}
use Rattle.std.specs.Cmp.Lexicographic.{pointwise}
use Rattle.std.specs.FinMap as map
use Rattle.std.specs.FinMap.{FinMap, entries_sorted, same_entries_map, entries-from_sorted}
use Rattle.std.proofs.lemmas.Cmp.{nat_list_cmp_total}
use Rattle.std.proofs.lemmas.Map.Lookups.{exact_bytes}
use Rattle.row_keys.specs.RowOrder.{bytes_cmp}
use Rattle.row_keys.specs.Keys.{key_cmp}
use Rattle.plain_model.specs.declared.stop.PlainStop.{PlainStop}
use Rattle.plain_model.specs.declared.stop.PlainStop.TheVariants.{NoTable}
use Rattle.plain_model.specs.declared.tables.PlainTable.{PlainTable}
use Rattle.plain_model.specs.declared.store.PlainStore.TheInside.{Inside}
use Rattle.plain_model.specs.State.{PointSet, PairMap, Table, PlainState, nothing}
use Rattle.plain_model.specs.Apply.{change_table, put_table}
use Rattle.plain_model.specs.Applies.{Applies}
use Rattle.plain_model.specs.Edits.{Edits}
use Rattle.plain_model.specs.Listed.{listed, point_item, pair_item, table_item, staged_item}
use Rattle.plain_model.specs.Places.{IsFound}
use Rattle.plain_model.specs.Inside.{view_of, IsInOrder, table_entry, staged_entry, points_of, pairs_of}
use Rattle.plain_model.proofs.InOrder.{entries-empty, insert_same}

-- ---- the list of a map says the map

module _ {K V X : Type 0} (R : K → K → Ordering) (item : K × V → X) (entry : X → K × V) (each : (e : K × V) → entry (item e) ≡ e) (m : FinMap R V) where
  all_back : (es : List (K × V)) → mapped entry (mapped item es) ≡ es
  all_back [] = refl
  all_back (e ∷ es) = λ i. each e i ∷ all_back es i

  pub from_listed : map.from_sorted {R = R} (mapped entry (listed item m)) ≡ m
  from_listed =
      ap (λ es. map.from_sorted {R = R} es) (all_back (map.entries m))
      ∙ same_entries_map (map.from_sorted (map.entries m)) m (entries-from_sorted R (map.entries m) (entries_sorted m))

points_back : (points : PointSet) → points_of (listed point_item points) ≡ points
points_back points = from_listed bytes_cmp point_item (λ row. (row, tt)) (λ e. refl) points

pairs_back : (pairs : PairMap) → pairs_of (listed pair_item pairs) ≡ pairs
pairs_back pairs = from_listed key_cmp pair_item (λ pair. (pair.key, pair.value)) (λ e. refl) pairs

tables_back : (tables : FinMap bytes_cmp Table) → map.from_sorted (mapped table_entry (listed table_item tables)) ≡ tables
tables_back tables = from_listed bytes_cmp table_item table_entry (λ e i. (e.0, record { name = e.1.name; points = points_back e.1.points i; pairs = pairs_back e.1.pairs i })) tables

staged_back : (staged : FinMap bytes_cmp PairMap) → map.from_sorted (mapped staged_entry (listed staged_item staged)) ≡ staged
staged_back staged = from_listed bytes_cmp staged_item staged_entry (λ e i. (e.0, pairs_back e.1 i)) staged

-- lists of maps are in order, and say these maps
pub kept : (inside : Inside) (tables : FinMap bytes_cmp Table) (staged : FinMap bytes_cmp PairMap) → inside.tables.items ≡ listed table_item tables → inside.staged.items ≡ listed staged_item staged
    → IsInOrder inside × (view_of inside ≡ record { tables = tables; staged = staged })
kept inside tables staged is files =
    let said = ap (λ items. map.from_sorted (mapped table_entry items)) is ∙ tables_back tables in
    let filed = ap (λ items. map.from_sorted (mapped staged_entry items)) files ∙ staged_back staged in (
      record { tables = is ∙ ap (listed table_item) (sym said); staged = files ∙ ap (listed staged_item) (sym filed) },
      λ i. record { tables = said i; staged = filed i },
    )

pub empty_kept : (inside : Inside) → inside.tables.items ≡ [] → inside.staged.items ≡ [] → IsInOrder inside × (view_of inside ≡ nothing)
empty_kept inside no_tables no_files = kept inside map.empty map.empty (no_tables ∙ ap (mapped table_item) (sym (entries-empty Table bytes_cmp))) (no_files ∙ ap (mapped staged_item) (sym (entries-empty PairMap bytes_cmp)))

pub on_ok : {T E A B : Type 0} (r : Result T E) → OnOk r A → (A → B) → OnOk r B
on_ok (Ok v) is then_is = then_is is
on_ok (Err e) is then_is = tt

-- ---- from a store in order

module _ (inside : Inside) (s : PlainState) (is : view_of inside ≡ s) (order : IsInOrder inside) where
  pub tables_are : inside.tables.items ≡ listed table_item s.tables
  tables_are = order.tables ∙ ap (λ v. listed table_item v.tables) is

  pub staged_are : inside.staged.items ≡ listed staged_item s.staged
  staged_are = order.staged ∙ ap (λ v. listed staged_item v.staged) is

  -- other tables
  pub with_tables : (next : Inside) (tables : FinMap bytes_cmp Table) → next.tables.items ≡ listed table_item tables → next.staged.items ≡ inside.staged.items → IsInOrder next × (view_of next ≡ record s { tables = tables })
  with_tables next tables lists same = kept next tables s.staged lists (same ∙ staged_are)

  -- other files
  pub with_staged : (next : Inside) (staged : FinMap bytes_cmp PairMap) → next.staged.items ≡ listed staged_item staged → next.tables.items ≡ inside.tables.items → IsInOrder next × (view_of next ≡ record s { staged = staged })
  with_staged next staged lists same = kept next s.tables staged (same ∙ tables_are) lists

  -- a table is put, or there is no memory for it
  pub put_done : (next : Inside) (id : List ℕ) (table : Table) (answer : Result (Unit {0}) AllocError) → OnOk answer (next.tables.items ≡ listed table_item (map.insert s.tables id table)) → OnErr answer (next.tables.items ≡ inside.tables.items)
      → next.staged.items ≡ inside.staged.items → IsInOrder next
  put_done next id table (Ok done) put kept same = (with_tables next (map.insert s.tables id table) put same).0
  put_done next id table (Err failed) put kept same = (with_tables next s.tables (kept ∙ tables_are) same).0

  -- a file is staged, or there is no memory for it
  pub staged_done : (next : Inside) (name : List ℕ) (pairs : PairMap) (answer : Result (Unit {0}) AllocError) → OnOk answer (next.staged.items ≡ listed staged_item (map.insert s.staged name pairs)) → OnErr answer (next.staged.items ≡ inside.staged.items)
      → next.tables.items ≡ inside.tables.items → IsInOrder next
  staged_done next name pairs (Ok done) put kept same = (with_staged next (map.insert s.staged name pairs) put same).0
  staged_done next name pairs (Err failed) put kept same = (with_staged next s.staged (kept ∙ staged_are) same).0

  module _ (id : List ℕ) (place : ℕ) (found : IsFound table_item s.tables id place) where
    pub item_is : (d : PlainTable) → get_or inside.tables.items place d ≡ table_item (id, found.value)
    item_is d = ap (λ items. get_or items place d) tables_are ∙ found.at d

    -- the table of an id
    pub at_found : {A : Type 0} (make : Table → A) (none : A) → option_map_or make (map.get s.tables id) none ≡ make found.value
    at_found make none = ap (λ o. option_map_or make o none) found.has

    pub put_there : (table : Table) → set inside.tables.items place (table_item (id, table)) ≡ listed table_item (map.insert s.tables id table)
    put_there table = ap (λ items. set items place (table_item (id, table))) tables_are ∙ found.put table

    stays : (after : PlainTable) → after ≡ table_item (id, found.value) → set inside.tables.items place after ≡ listed table_item s.tables
    stays after same =
        ap (set inside.tables.items place) same ∙ put_there found.value
        ∙ ap (listed table_item) (insert_same bytes_cmp nat_list_cmp_total exact_bytes s.tables id found.value found.has)

    module _ (answer : Result (Unit {0}) PlainStop) (old after : PlainTable) (next : Inside) (was : old ≡ table_item (id, found.value)) (lists : next.tables.items ≡ set inside.tables.items place after) (same : next.staged.items ≡ inside.staged.items) where
      stays_after : after ≡ old → IsInOrder next × (view_of next ≡ s)
      stays_after unchanged = with_tables next s.tables (lists ∙ stays after (unchanged ∙ was)) same

      by_outcome : (outcome : Result Table PlainStop) (given : Result (Unit {0}) PlainStop) → Applies (result_map_both (λ changed. table_item (id, changed)) (λ refusal. refusal) outcome) old given after
          → IsInOrder next × Applies (result_map_both (λ changed. put_table id changed s) (λ refusal. refusal) outcome) s given (view_of next)
      by_outcome (Ok table) (Ok done) changed = with_tables next (map.insert s.tables id table) (lists ∙ ap (set inside.tables.items place) changed ∙ put_there table) same
      by_outcome (Ok table) (Err stop) unchanged = let kept = stays_after unchanged.1 in (kept.0, (unchanged.0, kept.1))
      by_outcome (Err refusal) given unchanged = let kept = stays_after unchanged.1 in (kept.0, (unchanged.0, kept.1))

      -- the item of the table is changed, or stays
      pub edited : (make : Table → Result Table PlainStop) → Edits make old answer after → IsInOrder next × Applies (change_table id s make) s answer (view_of next)
      edited make edits =
          let done = by_outcome (make found.value) answer (edits id found.value was) in
          (done.0, subst (λ outcome. Applies outcome s answer (view_of next)) (sym (at_found (λ table. result_map_both (λ changed. put_table id changed s) (λ refusal. refusal) (make table)) (Err NoTable))) done.1)

-- some item has the name just where some table has
pub any_name : (name : List ℕ) (tables : FinMap bytes_cmp Table) → list_any (λ table. pointwise nat_eq name table.name) (listed table_item tables) ≡ list_any (λ table. pointwise nat_eq name table.name) (map.values tables)
any_name name tables = each (map.entries tables)
  where
    each : (es : List (List ℕ × Table)) → list_any (λ table. pointwise nat_eq name table.name) (mapped table_item es) ≡ list_any (λ table. pointwise nat_eq name table.name) (mapped (λ e. e.1) es)
    each [] = refl
    each (e ∷ es) = ap (λ b. pointwise nat_eq name e.1.name || b) (each es)
