-- Merges and deletions in nested ranges, and clones.
use Rattle.std.proofs.Common.{◌≡◌, ℕ, ◌&&◌, Bool, true, false, cond, not, List, Option, Some, None, Ok, Err, Ordering, Equal, refl, sym, ◌∙◌, ap}
use Rattle.std.specs.Option.{option_map_or, option_map}
use Rattle.std.specs.Cmp.{IsTotalOrder}
use Rattle.std.specs.FinMap as map
use Rattle.std.specs.FinMap.{FinMap, same_map, get-retain_keys}
use Rattle.std.proofs.lemmas.Bool.{false≢true, and_parts, and_from}
use Rattle.std.proofs.lemmas.Cmp.{nat_list_cmp_total}
use Rattle.std.proofs.lemmas.Map.Lookups.{CmpEqualImpliesEq, exact_bytes}
use Rattle.row_keys.specs.declared.key.Key.{Key}
use Rattle.row_keys.specs.RowOrder.{is_below, is_above, is_up_to, is_within, is_interval}
use Rattle.row_keys.proofs.RowOrderLemmas.{is_below-from_most, is_below-to_most}
use Rattle.plain_model.specs.declared.operation.Op.{Op}
use Rattle.plain_model.specs.declared.operation.Op.TheVariants.{Merge, DeleteRows}
use Rattle.plain_model.specs.declared.stop.PlainStop.TheVariants.{NoTable, Exists, BadRange}
use Rattle.plain_model.specs.State.{PointSet, PairMap, Table, PlainState}
use Rattle.plain_model.specs.Apply.{apply, change_table, put_table, has_name, is_under, points_outside, pairs_outside}
use Rattle.plain_model.specs.Laws.{followed_by, starts_by, ends_past, IsNested, Absorbs, MergeAbsorbs, DeleteRowsAbsorbs, pairs_at, ClonesStandApart}
use Rattle.plain_model.proofs.LawsLemmas.{get_own, get_other, put_put, same_Ok, if_ok, at_ok, change_ok}
use Rattle.plain_model.proofs.KeyOrder.{key_total, key_exact}

-- ---- bounds

not_true : (b : Bool) → not b ≡ true → b ≡ false
not_true true is = absurd (false≢true is)
not_true false is = refl

turned : (a b : Bool) → (a ≡ true → b ≡ true) → not b ≡ true → not a ≡ true
turned true b then_b no_b = absurd (false≢true (sym (not_true b no_b) ∙ then_b refl))
turned false b then_b no_b = refl

both_within : (a b c d : Bool) → (a ≡ true → c ≡ true) → (b ≡ true → d ≡ true) → (a && b) ≡ true → (c && d) ≡ true
both_within a b c d first second is = and_from c d (first (and_parts a b is).0) (second (and_parts a b is).1)

above_within : (from low : Option (List ℕ)) (row : List ℕ) → starts_by from low ≡ true → is_above low row ≡ true → is_above from row ≡ true
above_within None low row starts above = refl
above_within (Some from) None row starts above = absurd (false≢true starts)
above_within (Some from) (Some low) row starts above = is_below-from_most from low row (not_true (is_below low from) starts) above

under_within : (to high : Option (List ℕ)) (row : List ℕ) → ends_past to high ≡ true → is_under high row ≡ true → is_under to row ≡ true
under_within None high row ends under = refl
under_within (Some to) None row ends under = absurd (false≢true ends)
under_within (Some to) (Some high) row ends under = is_below-to_most row high to under (not_true (is_below to high) ends)

up_to_within : (to high : Option (List ℕ)) (row : List ℕ) → ends_past to high ≡ true → is_up_to high row ≡ true → is_up_to to row ≡ true
up_to_within None high row ends upto = refl
up_to_within (Some to) None row ends upto = absurd (false≢true ends)
up_to_within (Some to) (Some high) row ends upto = turned (is_below to row) (is_below high row) (λ below. is_below-from_most high to row (not_true (is_below to high) ends) below) upto

outer_interval : (low high from to : Option (List ℕ)) → IsNested low high from to → is_interval from to ≡ true
outer_interval low high None to nested = refl
outer_interval low high (Some from) None nested = refl
outer_interval None high (Some from) (Some to) nested = absurd (false≢true nested.starts)
outer_interval (Some low) None (Some from) (Some to) nested = absurd (false≢true nested.ends)
outer_interval (Some low) (Some high) (Some from) (Some to) nested =
    is_below-to_most from high to (is_below-from_most from low high (not_true (is_below low from) nested.starts) nested.interval) (not_true (is_below to high) nested.ends)

-- ---- what stays in a map

module _ {K V : Type 0} {R : K → K → Ordering} (o : IsTotalOrder R) (exact : CmpEqualImpliesEq R) (m : FinMap R V) (inner outer : K → Bool) (within : (k : K) → outer k ≡ true → inner k ≡ true) where
  alike : (p : K → Bool) (q x : K) → R q x ≡ Equal → p x ≡ p q
  alike p q x tied = ap p (sym (exact q x tied))

  one : (p : K → Bool) (n : FinMap R V) (q : K) → map.get (map.retain_keys n p) q ≡ cond (p q) (map.get n q) None
  one p n q = get-retain_keys n p q (alike p q)

  pub inner_first : map.retain_keys (map.retain_keys m inner) outer ≡ map.retain_keys m outer
  inner_first = same_map o exact (map.retain_keys (map.retain_keys m inner) outer) (map.retain_keys m outer) (λ q.
      one outer (map.retain_keys m inner) q ∙ ap (λ found. cond (outer q) found None) (one inner m q) ∙ at (outer q) (inner q) (map.get m q) (within q) ∙ sym (one outer m q))
    where
      at : (b c : Bool) (found : Option V) → (b ≡ true → c ≡ true) → cond b (cond c found None) None ≡ cond b found None
      at true c found then_c = ap (λ d. cond d found None) (then_c refl)
      at false c found then_c = refl

  pub inner_last : map.retain_keys (map.retain_keys m outer) inner ≡ map.retain_keys m outer
  inner_last = same_map o exact (map.retain_keys (map.retain_keys m outer) inner) (map.retain_keys m outer) (λ q.
      one inner (map.retain_keys m outer) q ∙ ap (λ found. cond (inner q) found None) (one outer m q) ∙ at (outer q) (inner q) (map.get m q) (within q) ∙ sym (one outer m q))
    where
      at : (b c : Bool) (found : Option V) → (b ≡ true → c ≡ true) → cond c (cond b found None) None ≡ cond b found None
      at true c found then_c = ap (λ d. cond d found None) (then_c refl)
      at false true found then_c = refl
      at false false found then_c = refl

module _ (low high from to : Option (List ℕ)) (nested : IsNested low high from to) where
  points_stay : (row : List ℕ) → not (is_above from row && is_under to row) ≡ true → not (is_above low row && is_under high row) ≡ true
  points_stay row = turned (is_above low row && is_under high row) (is_above from row && is_under to row)
      (both_within (is_above low row) (is_under high row) (is_above from row) (is_under to row) (above_within from low row nested.starts) (under_within to high row nested.ends))

  pairs_stay : (key : Key) → not (is_within from to key.row) ≡ true → not (is_within low high key.row) ≡ true
  pairs_stay key = turned (is_within low high key.row) (is_within from to key.row)
      (both_within (is_above low key.row) (is_up_to high key.row) (is_above from key.row) (is_up_to to key.row) (above_within from low key.row nested.starts) (up_to_within to high key.row nested.ends))

  points_before : (points : PointSet) → points_outside from to (points_outside low high points) ≡ points_outside from to points
  points_before points = inner_first nat_list_cmp_total exact_bytes points (λ row. not (is_above low row && is_under high row)) (λ row. not (is_above from row && is_under to row)) points_stay

  points_behind : (points : PointSet) → points_outside low high (points_outside from to points) ≡ points_outside from to points
  points_behind points = inner_last nat_list_cmp_total exact_bytes points (λ row. not (is_above low row && is_under high row)) (λ row. not (is_above from row && is_under to row)) points_stay

  pairs_before : (pairs : PairMap) → pairs_outside from to (pairs_outside low high pairs) ≡ pairs_outside from to pairs
  pairs_before pairs = inner_first key_total key_exact pairs (λ key. not (is_within low high key.row)) (λ key. not (is_within from to key.row)) pairs_stay

  pairs_behind : (pairs : PairMap) → pairs_outside low high (pairs_outside from to pairs) ≡ pairs_outside from to pairs
  pairs_behind pairs = inner_last key_total key_exact pairs (λ key. not (is_within low high key.row)) (λ key. not (is_within from to key.row)) pairs_stay

-- ---- one change of a table behind another

module _ (id : List ℕ) where
  -- a change, and then another one: the table is made anew once
  in_one : (f g both : Table → Table) → ((table : Table) → g (f table) ≡ both table) → (op : Op) → ((s : PlainState) → apply op s ≡ change_table id s (λ table. Ok (g table))) → (s : PlainState)
      → followed_by (change_table id s (λ table. Ok (f table))) op ≡ change_table id s (λ table. Ok (both table))
  in_one f g both joined op is s = at (map.get s.tables id)
    where
      at : (o : Option Table) → followed_by (option_map_or (λ table. Ok (put_table id (f table) s)) o (Err NoTable)) op ≡ option_map_or (λ table. Ok (put_table id (both table) s)) o (Err NoTable)
      at None = refl
      at (Some table) =
          is (put_table id (f table) s)
          ∙ ap (λ o. option_map_or (λ t. Ok (put_table id (g t) (put_table id (f table) s))) o (Err NoTable)) (get_own s.tables id (f table))
          ∙ ap (λ tables. Ok (record s { tables = tables })) (put_put s.tables id (f table) (g (f table)))
          ∙ ap (λ t. Ok (put_table id t s)) (joined table)

  absorbs : (outer inner : Op) (f g : Table → Table) → ((s : PlainState) → apply inner s ≡ change_table id s (λ table. Ok (f table))) → ((s : PlainState) → apply outer s ≡ change_table id s (λ table. Ok (g table)))
      → ((table : Table) → g (f table) ≡ g table) → ((table : Table) → f (g table) ≡ g table) → Absorbs outer inner
  absorbs outer inner f g is_inner is_outer before behind = record {
    before = λ s. ap (λ outcome. followed_by outcome outer) (is_inner s) ∙ in_one f g g before outer is_outer s ∙ sym (is_outer s);
    behind = λ s. ap (λ outcome. followed_by outcome inner) (is_outer s) ∙ in_one g f g behind inner is_inner s ∙ sym (is_outer s);
  }

-- a range that isn't empty
in_range : (id : List ℕ) (s : PlainState) (b : Bool) (f : Table → Table) → b ≡ true → change_table id s (λ table. cond b (Ok (f table)) (Err BadRange)) ≡ change_table id s (λ table. Ok (f table))
in_range id s b f is = ap (λ c. change_table id s (λ table. cond c (Ok (f table)) (Err BadRange))) is

pub merge_absorbs : MergeAbsorbs
merge_absorbs id low high from to nested =
    let merged : Option (List ℕ) → Option (List ℕ) → Table → Table = λ a b table. record table { points = points_outside a b table.points } in
    absorbs id (Merge id from to) (Merge id low high) (merged low high) (merged from to)
    (λ s. in_range id s (is_interval low high) (merged low high) nested.interval)
    (λ s. in_range id s (is_interval from to) (merged from to) (outer_interval low high from to nested))
    (λ table. ap (λ points. record table { points = points }) (points_before low high from to nested table.points))
    (λ table. ap (λ points. record table { points = points }) (points_behind low high from to nested table.points))

pub delete_rows_absorbs : DeleteRowsAbsorbs
delete_rows_absorbs id low high from to nested =
    let deleted : Option (List ℕ) → Option (List ℕ) → Table → Table = λ a b table. record table { points = points_outside a b table.points; pairs = pairs_outside a b table.pairs } in
    absorbs id (DeleteRows id from to) (DeleteRows id low high) (deleted low high) (deleted from to)
    (λ s. in_range id s (is_interval low high) (deleted low high) nested.interval)
    (λ s. in_range id s (is_interval from to) (deleted from to) (outer_interval low high from to nested))
    (λ table i. record table { points = points_before low high from to nested table.points i; pairs = pairs_before low high from to nested table.pairs i })
    (λ table i. record table { points = points_behind low high from to nested table.points i; pairs = pairs_behind low high from to nested table.pairs i })

-- ---- clones

pub clones_apart : ClonesStandApart
clones_apart id new_id name pair s cloned apart is =
    let found = at_ok id s cloned (λ table. cond (has_name name s) (Err Exists) (Ok (put_table new_id (record table { name = name }) s))) is in
    let copy : Table = record found.0 { name = name } in
    let made = if_ok (has_name name s) Exists (Ok (put_table new_id copy s)) cloned found.2 in
    let cloned_is : put_table new_id copy s ≡ cloned = same_Ok (put_table new_id copy s) cloned made.1 in
    let pairs_of : Option Table → Option PairMap = option_map (λ table. table.pairs) in
    let new_there : map.get cloned.tables new_id ≡ Some copy = ap (λ (t : PlainState). map.get t.tables new_id) (sym cloned_is) ∙ get_own s.tables new_id copy in
    let old_there : map.get cloned.tables id ≡ map.get s.tables id = ap (λ (t : PlainState). map.get t.tables id) (sym cloned_is) ∙ get_other s.tables new_id copy id apart in
    let alike : pairs_at new_id cloned ≡ pairs_at id s = ap pairs_of new_there ∙ sym (ap pairs_of found.1) in
    record {
      alike = alike;
      original = λ next inserted.
          let done = change_ok new_id cloned next (λ table. Ok (record table { pairs = map.insert table.pairs pair.key pair.value })) inserted in
          ap (pairs_at id) (sym done.4) ∙ ap pairs_of (get_other cloned.tables new_id done.1 id apart) ∙ ap pairs_of old_there;
      copy = λ next inserted.
          let done = change_ok id cloned next (λ table. Ok (record table { pairs = map.insert table.pairs pair.key pair.value })) inserted in
          ap (pairs_at new_id) (sym done.4) ∙ ap pairs_of (get_other cloned.tables id done.1 new_id (λ same. apart (sym same))) ∙ alike;
    }
