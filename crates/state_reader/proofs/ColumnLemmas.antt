-- The newest pairs of a row are its columns.
use Rattle.std.proofs.Common.{◌≡◌, ◌≢◌, ℕ, ◌&&◌, Bool, true, false, cond, List, [], ◌∷◌, map, Contains, Option, Some, None, IsTrue, refl, sym, ◌∙◌, ap, subst}
use Rattle.std.specs.Prelude.{IsSome, is_some, find, filter}
use Rattle.std.specs.Option.{option_map, option_flatten}
use Rattle.std.specs.declared.cmp.Ordering.TheVariants.{Less}
use Rattle.std.specs.Ordering.{is_lt, ordering_then}
use Rattle.std.specs.List.{All, AllByRecursion, list_all}
use Rattle.std.specs.List.Sorted.{IsStrictlySortedBy}
use Rattle.std.specs.Cmp.Lexicographic.{nat_list_cmp_total}
use Rattle.std.proofs.lemmas.Bool.{false≢true, and_parts, and_from}
use Rattle.std.proofs.lemmas.Cmp.{tied_itself}
use Rattle.std.proofs.lemmas.List.Elements.{All-nil, All-cons, All-head, All-tail}
use Rattle.row_keys.specs.declared.key.Key.{Key}
use Rattle.row_keys.specs.Keys.{key_cmp}
use Rattle.row_keys.specs.RowOrder.{bytes_cmp}
use Rattle.metadata_schema.specs.declared.mutation.Update.{Update}
use Rattle.metadata_schema.specs.Bytes.{same, is_rising}
use Rattle.metadata_schema.specs.Columns.{is_named, update_at, column_at, update_cmp}
use Rattle.metadata_schema.specs.Refusals.{AreColumns}
use Rattle.metadata_schema.proofs.GivenLemmas.{IsGiven, AreGiven, given_at}
use Rattle.metadata_schema.proofs.SameLists.{same_lists, joined}
use Rattle.cell_merge.specs.declared.cell.Cell.{Cell}
use Rattle.cell_merge.specs.declared.cell.Pair.{Pair}
use Rattle.cell_merge.specs.Newest.{newest_at, IsNewest}
use Rattle.cell_merge.proofs.RisingLemmas.{rising-filter, rising_head, rising_tail}
use Rattle.level_rows.proofs.EndLemmas.{same-true, same-itself, same-refl}
use Rattle.level_rows.proofs.LookupLemmas.{find-there, find-some}
use Rattle.store_meaning.specs.Levels.{SpellsRow}
use Rattle.store_meaning.proofs.RowLemmas.{key_at}
use Rattle.state_reader.specs.Columns.{column_of, is_in_row, columns_in, HasPair, AreInOrder}

-- ---- what the columns give

-- the pair is of this row and column
abbrev is_at : List ℕ → List ℕ → List ℕ → Pair → Bool
is_at row family qualifier pair = is_in_row row pair && is_named family qualifier (column_of pair)

abbrev given : Pair → Option (List ℕ)
given pair = Some pair.value

update_in : (pairs : List Pair) (row family qualifier : List ℕ) → update_at (columns_in pairs row) family qualifier ≡ option_map given (find (is_at row family qualifier) pairs)
update_in [] row family qualifier = refl
update_in (pair ∷ pairs) row family qualifier = by (is_in_row row pair) (update_in pairs row family qualifier)
  where
    here : (b : Bool) → update_at (columns_in pairs row) family qualifier ≡ option_map given (find (is_at row family qualifier) pairs)
        → cond b (Some (Some pair.value)) (update_at (columns_in pairs row) family qualifier) ≡ option_map given (cond b (Some pair) (find (is_at row family qualifier) pairs))
    here true rest = refl
    here false rest = rest

    by : (a : Bool) → update_at (columns_in pairs row) family qualifier ≡ option_map given (find (is_at row family qualifier) pairs)
        → update_at (map column_of (cond a (pair ∷ filter (is_in_row row) pairs) (filter (is_in_row row) pairs))) family qualifier
        ≡ option_map given (cond (a && is_named family qualifier (column_of pair)) (Some pair) (find (is_at row family qualifier) pairs))
    by true rest = here (is_named family qualifier (column_of pair)) rest
    by false rest = rest

module _ (cells : List Cell) (pairs : List Pair) (newest : IsNewest cells pairs) where
  -- the newest of the cells at the row are these columns
  pub spells_in : (row : List ℕ) → SpellsRow cells row (columns_in pairs row)
  spells_in row = record { each = λ family qualifier. at family qualifier (find (is_at row family qualifier) pairs) refl (newest_at cells (key_at row family qualifier)) refl }
    where
      column : (family qualifier : List ℕ) (o : Option Pair) → find (is_at row family qualifier) pairs ≡ o → column_at (columns_in pairs row) family qualifier ≡ option_flatten (option_map given o)
      column family qualifier o e = ap option_flatten (update_in pairs row family qualifier) ∙ ap (λ (x : Option Pair). option_flatten (option_map given x)) e

      at : (family qualifier : List ℕ) (o : Option Pair) → find (is_at row family qualifier) pairs ≡ o → (v : Option (List ℕ)) → newest_at cells (key_at row family qualifier) ≡ v
          → newest_at cells (key_at row family qualifier) ≡ column_at (columns_in pairs row) family qualifier
      at family qualifier None e None is = is ∙ sym (column family qualifier None e)
      at family qualifier None e (Some value) is = absurd (
          let pair : Pair = record { key = key_at row family qualifier; value = value } in
          let there = (newest.each pair).1 is in
          let tested = and_from (same row row) (is_named family qualifier (column_of pair)) (same-refl row) (and_from (same family family) (same qualifier qualifier) (same-refl family) (same-refl qualifier)) in
          false≢true (sym (ap is_some e) ∙ find-some (is_at row family qualifier) pairs pair there tested))
      at family qualifier (Some pair) e v is =
          let found = find-there (is_at row family qualifier) pairs pair e in
          let tested = and_parts (is_in_row row pair) (is_named family qualifier (column_of pair)) found.1 in
          let named = and_parts (same pair.key.family family) (same pair.key.qualifier qualifier) tested.1 in
          let rows = same-true pair.key.row row tested.0 in
          let families = same-true pair.key.family family named.0 in
          let qualifiers = same-true pair.key.qualifier qualifier named.1 in
          let key : key_at row family qualifier ≡ pair.key = sym (λ i. key_at (rows i) (families i) (qualifiers i)) in
          ap (newest_at cells) key ∙ (newest.each pair).0 found.0 ∙ sym (column family qualifier (Some pair) e)

  -- a row without pairs has no columns
  pub none_in : (row : List ℕ) → (HasPair pairs row → ⊥) → SpellsRow cells row []
  none_in row none = record { each = λ family qualifier. at family qualifier (newest_at cells (key_at row family qualifier)) refl }
    where
      at : (family qualifier : List ℕ) (v : Option (List ℕ)) → newest_at cells (key_at row family qualifier) ≡ v → newest_at cells (key_at row family qualifier) ≡ None
      at family qualifier None is = is
      at family qualifier (Some value) is = absurd (none (record { pair = record { key = key_at row family qualifier; value = value }; there = (newest.each _).1 is; at = refl }))

  -- and one with a pair has some
  pub some_in : (row : List ℕ) → HasPair pairs row → SpellsRow cells row [] → ⊥
  some_in row has spells =
      let at : newest_at cells has.pair.key ≡ Some has.pair.value = (newest.each has.pair).0 has.there in
      let key : has.pair.key ≡ key_at row has.pair.key.family has.pair.key.qualifier = λ i. key_at (has.at i) has.pair.key.family has.pair.key.qualifier in
      let none : newest_at cells has.pair.key ≡ None = ap (newest_at cells) key ∙ spells.each has.pair.key.family has.pair.key.qualifier in
      let wrong : Some has.pair.value ≡ None = sym at ∙ none in
      cc

-- ---- their order

module _ (row : List ℕ) where
  below : (one other : Pair) → is_in_row row one ≡ true → is_in_row row other ≡ true → is_lt (key_cmp one.key other.key) ≡ is_lt (update_cmp (column_of one) (column_of other))
  below one other first second =
      let rows : bytes_cmp one.key.row other.key.row ≡ bytes_cmp row row = λ i. bytes_cmp (same-true one.key.row row first i) (same-true other.key.row row second i) in
      ap (λ o. is_lt (ordering_then o (ordering_then (bytes_cmp one.key.family other.key.family) (bytes_cmp one.key.qualifier other.key.qualifier)))) (rows ∙ tied_itself nat_list_cmp_total row)

  above : (one : Pair) (pairs : List Pair) → is_in_row row one ≡ true → AllByRecursion (λ (pair : Pair). is_in_row row pair ≡ true) pairs → AllByRecursion (λ k. key_cmp one.key k ≡ Less) (map (λ (pair : Pair). pair.key) pairs)
      → list_all (λ other. is_lt (update_cmp (column_of one) other)) (map column_of pairs) ≡ true
  above one [] first all less = refl
  above one (pair ∷ pairs) first all less =
      and_from (is_lt (update_cmp (column_of one) (column_of pair))) (list_all (λ other. is_lt (update_cmp (column_of one) other)) (map column_of pairs))
      (sym (below one pair first all.0) ∙ ap is_lt less.0) (above one pairs first all.1 less.1)

  rises : (pairs : List Pair) → AllByRecursion (λ (pair : Pair). is_in_row row pair ≡ true) pairs → IsStrictlySortedBy key_cmp (map (λ (pair : Pair). pair.key) pairs) → IsTrue (is_rising update_cmp (map column_of pairs))
  rises [] all up = refl
  rises (pair ∷ pairs) all up =
      and_from (list_all (λ other. is_lt (update_cmp (column_of pair) other)) (map column_of pairs)) (is_rising update_cmp (map column_of pairs))
      (above pair pairs all.0 all.1 (rising_head (λ (p : Pair). p.key) pair pairs up)) (rises pairs all.1 (rising_tail (λ (p : Pair). p.key) pair pairs up))

  all_in_row : (pairs : List Pair) → AllByRecursion (λ (pair : Pair). is_in_row row pair ≡ true) (filter (is_in_row row) pairs)
  all_in_row [] = tt
  all_in_row (pair ∷ pairs) = by (is_in_row row pair) refl (all_in_row pairs)
    where
      by : (b : Bool) → is_in_row row pair ≡ b → AllByRecursion (λ (p : Pair). is_in_row row p ≡ true) (filter (is_in_row row) pairs)
          → AllByRecursion (λ (p : Pair). is_in_row row p ≡ true) (cond b (pair ∷ filter (is_in_row row) pairs) (filter (is_in_row row) pairs))
      by true is rest = (is, rest)
      by false is rest = rest

  all_written : (pairs : List Pair) → All (λ (u : Update). IsSome u.value) (map column_of pairs)
  all_written [] = All-nil (λ (u : Update). IsSome u.value)
  all_written (pair ∷ pairs) = All-cons (λ (u : Update). IsSome u.value) (column_of pair) (map column_of pairs) refl (all_written pairs)

  pub are_columns : (pairs : List Pair) → AreInOrder pairs → AreColumns (columns_in pairs row)
  are_columns pairs rising = record {
    written = all_written (filter (is_in_row row) pairs);
    order = rises (filter (is_in_row row) pairs) (all_in_row pairs) (rising-filter (λ (p : Pair). p.key) (is_in_row row) pairs rising);
  }

-- ---- columns of one row are one list

all_given : (us : List Update) → All (λ (u : Update). IsSome u.value) us → AreGiven us
all_given [] all = tt
all_given (u ∷ us) all = (some u.value (All-head (λ (v : Update). IsSome v.value) u us all), all_given us (All-tail (λ (v : Update). IsSome v.value) u us all))
  where
    some : (o : Option (List ℕ)) → IsSome o → IsGiven (Some o)
    some None is = absurd (false≢true is)
    some (Some value) is = tt

pub spelled_once : (cells : List Cell) (row : List ℕ) (us vs : List Update) → SpellsRow cells row us → SpellsRow cells row vs → AreColumns us → AreColumns vs → us ≡ vs
spelled_once cells row us vs first second one two =
    same_lists us vs one.order two.order
    (λ f q. joined (update_at us f q) (update_at vs f q) (given_at us f q (all_given us one.written)) (given_at vs f q (all_given vs two.written)) (sym (first.each f q) ∙ second.each f q))
