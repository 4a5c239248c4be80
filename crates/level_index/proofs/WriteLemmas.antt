-- The cells of a row that gets updates, and the entry that they give.
use Rattle.std.proofs.Common.{◌≡◌, ◌≢◌, ℕ, Bool, true, false, List, [], map, Contains, Option, Some, None, IfSome, refl, sym, ◌∙◌, ap, subst}
use Rattle.std.specs.Option.{option_and_then, option_map, option_map_or, option_flatten}
use Rattle.std.proofs.lemmas.Bool.{false≢true}
use Rattle.std.proofs.lemmas.Option.{none-some}
use Rattle.row_keys.proofs.MetadataRowsLemmas.{one_to_one}
use Rattle.metadata_schema.specs.declared.mutation.Update.{Update}
use Rattle.metadata_schema.specs.Between.{column_after}
use Rattle.metadata_schema.specs.Bytes.{same}
use Rattle.metadata_schema.specs.Columns.{update_at}
use Rattle.metadata_schema.specs.Paths.{IsFilePath}
use Rattle.cell_merge.specs.declared.cell.Cell.{Cell}
use Rattle.cell_merge.specs.declared.cell.Pair.{Pair}
use Rattle.cell_merge.specs.Newest.{later, newest_at, IsNewest}
use Rattle.cell_merge.proofs.LatestLemmas.{latest-append}
use Rattle.cell_merge.proofs.Membership.{Contains-nil}
use Rattle.level_rows.proofs.EndLemmas.{same-true, same-itself}
use Rattle.store_layout.specs.NewStore.{cell_of}
use Rattle.store_meaning.specs.Levels.{SpellsRow, IsRecordAt, IsFlagAt}
use Rattle.store_meaning.specs.RowWrites.{LevelRow, RecordRow, CandidateRow, FlagRow, MayStand, place_of, columns_to}
use Rattle.store_meaning.proofs.RowLemmas.{key_at, given, own_latest, other_latest}
use Rattle.state_reader.specs.declared.level.LevelKind.{LevelKind}
use Rattle.state_reader.specs.declared.level.BadRow.{BadRow}
use Rattle.state_reader.specs.declared.level.BadRow.TheVariants.{Tablet, Candidate, Flag}
use Rattle.state_reader.specs.Columns.{HasPair}
use Rattle.state_reader.specs.LevelRows.{IsOfKind, IsBadRow}
use Rattle.state_reader.proofs.ColumnLemmas.{spells_in, none_in}
use Rattle.level_index.specs.declared.entry.LevelEntry.{LevelEntry}
use Rattle.level_index.specs.Entries.{IsRowOf}
use Rattle.level_index.specs.RowReads.{IsEntryIn}
use Rattle.level_index.specs.Writes.{updated_cells, GivesRow, GivesEntry, GivesNone}
use Rattle.level_index.proofs.RowsApart.{tablet_no_candidate, tablet_no_flag, candidate_no_flag, same_candidate, same_flag}
use Rattle.level_index.proofs.EntryLemmas.{row_to, to_place, to_form, to_columns, to_entry, cleared, cleared_place, cleared_form, cleared_columns, cleared_entry}

-- ---- rows at which cells tell of nothing

row_of_bad : BadRow → List ℕ
row_of_bad (Tablet row) = row
row_of_bad (Candidate row) = row
row_of_bad (Flag row) = row

module _ (kind : LevelKind) (cells : List Cell) where
  bad_is_row : (bad : BadRow) → IsBadRow kind cells bad → IsRowOf kind (row_of_bad bad)
  unfolding row_of_bad
  bad_is_row (Tablet row) is = record { to = RecordRow is.table is.end None; place = is.named.is; may = (is.of, is.named.name, tt) }
  bad_is_row (Candidate row) is = record { to = CandidateRow is.path false; place = is.place; may = λ (e : false ≡ true). cc }
  bad_is_row (Flag row) is = record { to = FlagRow is.path None; place = is.place; may = tt }

  bad_empty : (bad : BadRow) → IsBadRow kind cells bad → SpellsRow cells (row_of_bad bad) [] → ⊥
  unfolding row_of_bad
  bad_empty (Tablet row) is = is.none None tt
  bad_empty (Candidate row) is = is.none false (λ (e : false ≡ true). cc)
  bad_empty (Flag row) is = is.none None tt

  bad_to : (bad : BadRow) → IsBadRow kind cells bad → (to : LevelRow) → row_of_bad bad ≡ place_of to → MayStand (IsOfKind kind) to → SpellsRow cells (row_of_bad bad) (columns_to to) → ⊥
  unfolding row_of_bad
  bad_to (Tablet row) is (RecordRow table end tablet) place may spells =
      let names = one_to_one table is.table end is.end may.1 is.named.name (sym place ∙ is.named.is) in
      is.none tablet (subst (λ t. IfSome tablet (IsRecordAt t is.end)) names.0 (subst (λ e. IfSome tablet (IsRecordAt table e)) names.1 may.2)) spells
  bad_to (Tablet row) is (CandidateRow path is_there) place may spells = tablet_no_candidate is.table is.end path is.named.name (sym is.named.is ∙ place)
  bad_to (Tablet row) is (FlagRow path flag) place may spells = tablet_no_flag is.table is.end path is.named.name (sym is.named.is ∙ place)
  bad_to (Candidate row) is (RecordRow table end tablet) place may spells = tablet_no_candidate table end is.path may.1 (sym place ∙ is.place)
  bad_to (Candidate row) is (CandidateRow path is_there) place may spells = is.none is_there (λ there. subst IsFilePath (same_candidate path is.path (sym place ∙ is.place)) (may there)) spells
  bad_to (Candidate row) is (FlagRow path flag) place may spells = candidate_no_flag is.path path (sym is.place ∙ place)
  bad_to (Flag row) is (RecordRow table end tablet) place may spells = tablet_no_flag table end is.path may.1 (sym place ∙ is.place)
  bad_to (Flag row) is (CandidateRow path is_there) place may spells = candidate_no_flag path is.path (sym place ∙ is.place)
  bad_to (Flag row) is (FlagRow path flag) place may spells = is.none flag (subst (λ p. IfSome flag (IsFlagAt p)) (same_flag path is.path (sym place ∙ is.place)) may) spells

-- ---- the newest of a row's cells once it gets updates

value_of : Option Cell → Option (List ℕ)
value_of o = option_and_then (λ cell. cell.value) o

over : (row family qualifier : List ℕ) (o : Option (Option (List ℕ))) (u : Option (Option (List ℕ)))
    → value_of (later (option_map (given row 0 family qualifier) o) (option_map (given row 1 family qualifier) u)) ≡ option_map_or (λ value. value) u (option_flatten o)
unfolding value_of
over row family qualifier None None = refl
over row family qualifier None (Some w) = refl
over row family qualifier (Some None) None = refl
over row family qualifier (Some (Some v)) None = refl
over row family qualifier (Some v) (Some w) = refl

module _ (columns : List Update) (row : List ℕ) (updates : List Update) where
  newest_after : (family qualifier : List ℕ) → newest_at (updated_cells columns row updates) (key_at row family qualifier) ≡ column_after updates columns family qualifier
  unfolding value_of
  newest_after family qualifier =
      ap value_of (latest-append (map (cell_of row 0) columns) (map (cell_of row 1) updates) (key_at row family qualifier)
      ∙ (λ i. later (own_latest row 0 columns family qualifier i) (own_latest row 1 updates family qualifier i)))
      ∙ over row family qualifier (update_at columns family qualifier) (update_at updates family qualifier)

  nothing_beside : (other family qualifier : List ℕ) → other ≢ row → newest_at (updated_cells columns row updates) (key_at other family qualifier) ≡ None
  unfolding value_of
  nothing_beside other family qualifier apart =
      ap value_of (latest-append (map (cell_of row 0) columns) (map (cell_of row 1) updates) (key_at other family qualifier)
      ∙ (λ i. later (other_latest row 0 other columns family qualifier apart i) (other_latest row 1 other updates family qualifier apart i)))

  module _ (kind : LevelKind) where
    gives_from : (to : LevelRow) → row ≡ place_of to → MayStand (IsOfKind kind) to → SpellsRow (updated_cells columns row updates) row (columns_to to) → GivesRow (IsOfKind kind) columns row updates to
    gives_from to place form spells = record { place = place; gives = λ family qualifier. sym (newest_after family qualifier) ∙ spells.each family qualifier; form = form }

    spells_from : (to : LevelRow) → GivesRow (IsOfKind kind) columns row updates to → SpellsRow (updated_cells columns row updates) row (columns_to to)
    spells_from to is = record { each = λ family qualifier. newest_after family qualifier ∙ is.gives family qualifier }

    module _ (pairs : List Pair) (newest : IsNewest (updated_cells columns row updates) pairs) where
      -- where nothing is left, the row has nothing
      pub gives_nothing : pairs ≡ [] → IsRowOf kind row → GivesEntry kind columns row updates None
      gives_nothing none is = record {
        to = cleared is.to;
        gives = gives_from (cleared is.to) (is.place ∙ sym (cleared_place is.to)) (cleared_form kind is.to is.may)
            (subst (SpellsRow (updated_cells columns row updates) row) (sym (cleared_columns is.to))
            (none_in (updated_cells columns row updates) pairs newest row (λ has. Contains-nil has.pair (subst (λ (l : List Pair). Contains l has.pair) none has.there))));
        is = cleared_entry is.to;
      }

      pub gives_entry : (entry : LevelEntry) → IsEntryIn kind pairs row entry → GivesEntry kind columns row updates (Some entry)
      gives_entry entry is = record {
        to = row_to entry;
        gives = gives_from (row_to entry) (to_place kind row entry is.stands) (to_form kind row entry is.stands)
            (subst (SpellsRow (updated_cells columns row updates) row) (is.columns ∙ sym (to_columns entry)) (spells_in (updated_cells columns row updates) pairs newest row));
        is = to_entry entry;
      }

      -- each pair is of the row
      pub has_row : (pair : Pair) → Contains pairs pair → HasPair pairs row
      has_row pair there = record { pair = pair; there = there; at = by (same pair.key.row row) refl }
        where
          by : (b : Bool) → same pair.key.row row ≡ b → pair.key.row ≡ row
          by true e = same-true pair.key.row row e
          by false e = absurd (none-some pair.value (sym (nothing_beside pair.key.row pair.key.family pair.key.qualifier (λ at. false≢true (sym e ∙ same-itself pair.key.row row at))) ∙ (newest.each pair).0 there))

    pub gives_bad : (bad : BadRow) → IsBadRow kind (updated_cells columns row updates) bad → GivesNone kind columns row updates
    gives_bad bad is = by (same (row_of_bad bad) row) refl
      where
        by : (b : Bool) → same (row_of_bad bad) row ≡ b → GivesNone kind columns row updates
        by true e =
            let at : row_of_bad bad ≡ row = same-true (row_of_bad bad) row e in
            record {
              row_of = subst (IsRowOf kind) at (bad_is_row kind (updated_cells columns row updates) bad is);
              none = λ to gives. bad_to kind (updated_cells columns row updates) bad is to (at ∙ gives.place) gives.form (subst (λ r. SpellsRow (updated_cells columns row updates) r (columns_to to)) (sym at) (spells_from to gives));
            }
        by false e = absurd (bad_empty kind (updated_cells columns row updates) bad is (record {
          each = λ family qualifier. nothing_beside (row_of_bad bad) family qualifier (λ at. false≢true (sym e ∙ same-itself (row_of_bad bad) row at));
        }))
