-- What single rows tell makes up a level.
use Rattle.std.proofs.Common.{◌≡◌, ℕ, ◌||◌, Bool, true, false, List, [], ◌∷◌, Contains, Option, Some, None, refl, sym, ◌∙◌, ap, subst}
use Rattle.std.specs.Prelude.{is_some, find}
use Rattle.std.specs.List.{list_any}
use Rattle.std.specs.Option.{option_map}
use Rattle.std.proofs.lemmas.Bool.{false≢true}
use Rattle.std.proofs.lemmas.Option.{same_Some, none-some}
use Rattle.std.proofs.lemmas.Map.Views.{Contains-from_any, list_any-from_Contains}
use Rattle.std.specs.Cmp.Lexicographic.{nat_list_eq_equiv}
use Rattle.row_keys.specs.MetadataRow.{metadata_row, IsTabletName}
use Rattle.row_keys.proofs.MetadataRowsLemmas.{one_to_one}
use Rattle.metadata_schema.specs.declared.tablet.TabletRecord.{TabletRecord}
use Rattle.metadata_schema.specs.Bytes.{same}
use Rattle.metadata_schema.specs.Columns.{columns_of}
use Rattle.metadata_schema.specs.Paths.{IsFilePath}
use Rattle.cell_merge.specs.declared.cell.Cell.{Cell}
use Rattle.cell_merge.specs.declared.cell.Pair.{Pair}
use Rattle.cell_merge.specs.Newest.{IsNewest}
use Rattle.level_rows.specs.Chain.{rows_of, is_named}
use Rattle.level_rows.proofs.EndLemmas.{same-true, same-refl, same-itself, named-from}
use Rattle.level_rows.proofs.LookupLemmas.{find-there, find-some, row-there}
use Rattle.level_rows.proofs.Membership.{Contains-nil, Contains-here, Contains-there, Contains-cons_cases}
use Rattle.store_meaning.specs.Levels.{Flag, SpellsRow, IsRecordAt, IsFlagAt, IsLevelOf, record_columns, candidate_columns, flag_columns, candidate_row, flag_row, lone_column}
use Rattle.state_reader.specs.declared.level.LevelKind.{LevelKind}
use Rattle.state_reader.specs.declared.level.LoadFlag.{LoadFlag}
use Rattle.state_reader.specs.declared.level.LevelRows.{LevelRows}
use Rattle.state_reader.specs.Columns.{columns_in, HasPair, AreRowsOf}
use Rattle.state_reader.specs.LevelRows.{IsOfKind, flag_of, flag_at, level_of}
use Rattle.state_reader.specs.RowReads.{flag_text, AreRecordsIn, AreCandidatesIn, AreFlagsIn}
use Rattle.state_reader.proofs.ColumnLemmas.{spells_in, none_in}

module _ (kind : LevelKind) (cells : List Cell) (pairs : List Pair) (newest : IsNewest cells pairs) (rows : List (List ℕ)) (are : AreRowsOf pairs rows) where
  -- ---- records

  module _ (records : List TabletRecord) (read : AreRecordsIn kind pairs rows records) where
    spelled_records : (table : List ℕ) (end : Option (List ℕ)) → IsOfKind kind table → IsTabletName table end → SpellsRow cells (metadata_row table end) (record_columns (rows_of table records end))
    spelled_records table end of name = by (rows_of table records end) refl
      where
        by : (o : Option TabletRecord) → rows_of table records end ≡ o → SpellsRow cells (metadata_row table end) (record_columns o)
        by None e = none_in cells pairs newest (metadata_row table end) (λ has.
            let found = read.all (metadata_row table end) ((are.each (metadata_row table end)).1 has) table end of (record { name = name; is = refl }) in
            let names = one_to_one table found.0.table end found.0.end name found.2.is.named.name found.2.is.named.is in
            false≢true (sym (ap is_some e) ∙ find-some (is_named table end) records found.0 found.1 (named-from table end found.0 (sym names.0) (sym names.1))))
        by (Some tablet) e =
            let there = row-there table records end tablet e in
            let one = read.each tablet there.0 in
            let row : one.0 ≡ metadata_row table end = one.1.is.named.is ∙ (λ i. metadata_row (there.1 i) (there.2 i)) in
            subst (λ r. SpellsRow cells r (columns_of tablet)) row (subst (SpellsRow cells one.0) one.1.is.spelled (spells_in cells pairs newest one.0))

    owned : (table : List ℕ) (end : Option (List ℕ)) (tablet : TabletRecord) → rows_of table records end ≡ Some tablet → IsOfKind kind table
    owned table end tablet e =
        let there = row-there table records end tablet e in
        subst (IsOfKind kind) there.1 (read.each tablet there.0).1.of

    formed : (table : List ℕ) (end : Option (List ℕ)) (tablet : TabletRecord) → rows_of table records end ≡ Some tablet → IsRecordAt table end tablet
    formed table end tablet e =
        let there = row-there table records end tablet e in
        let one = (read.each tablet there.0).1 in
        record { name = subst (λ t. IsTabletName t end) there.1 (subst (IsTabletName tablet.table) there.2 one.is.named.name); table_is = there.1; end_is = there.2; form = one.is.form }

  -- ---- candidates

  module _ (paths : List (List ℕ)) (read : AreCandidatesIn pairs rows paths) where
    spelled_candidates : (path : List ℕ) → SpellsRow cells (candidate_row path) (candidate_columns (list_any (same path) paths))
    spelled_candidates path = by (list_any (same path) paths) refl
      where
        by : (b : Bool) → list_any (same path) paths ≡ b → SpellsRow cells (candidate_row path) (candidate_columns b)
        by true e =
            let one = read.each path (Contains-from_any same-true path paths e) in
            subst (λ r. SpellsRow cells r (lone_column [])) one.1.place (subst (SpellsRow cells one.0) one.1.columns (spells_in cells pairs newest one.0))
        by false e = none_in cells pairs newest (candidate_row path) (λ has. false≢true (sym e ∙ list_any-from_Contains nat_list_eq_equiv path paths (read.all (candidate_row path) ((are.each (candidate_row path)).1 has) path refl)))

    formed_candidates : (path : List ℕ) → list_any (same path) paths ≡ true → IsFilePath path
    formed_candidates path e = (read.each path (Contains-from_any same-true path paths e)).1.form

  -- ---- flags

  module _ (flags : List LoadFlag) (read : AreFlagsIn pairs rows flags) where
    spelled_flags : (path : List ℕ) → SpellsRow cells (flag_row path) (flag_columns (flag_at flags path))
    spelled_flags path = by (find (λ (flag : LoadFlag). same flag.path path) flags) refl
      where
        by : (o : Option LoadFlag) → find (λ (flag : LoadFlag). same flag.path path) flags ≡ o → SpellsRow cells (flag_row path) (flag_columns (option_map flag_of o))
        by None e = none_in cells pairs newest (flag_row path) (λ has.
            let found = read.all (flag_row path) ((are.each (flag_row path)).1 has) path refl in
            false≢true (sym (ap is_some e) ∙ find-some (λ (flag : LoadFlag). same flag.path path) flags found.0 found.1 (same-itself found.0.path path found.2)))
        by (Some flag) e =
            let there = find-there (λ (f : LoadFlag). same f.path path) flags flag e in
            let one = read.each flag there.0 in
            let row : one.0 ≡ flag_row path = one.1.place ∙ ap flag_row (same-true flag.path path there.1) in
            subst (λ r. SpellsRow cells r (lone_column (flag_text flag.tid flag.number))) row (subst (SpellsRow cells one.0) one.1.columns (spells_in cells pairs newest one.0))

    formed_flags : (path : List ℕ) (flag : Flag) → flag_at flags path ≡ Some flag → IsFlagAt path flag
    formed_flags path flag = by (find (λ (f : LoadFlag). same f.path path) flags) refl
      where
        by : (o : Option LoadFlag) → find (λ (f : LoadFlag). same f.path path) flags ≡ o → option_map flag_of o ≡ Some flag → IsFlagAt path flag
        by None e is = absurd (none-some flag is)
        by (Some found) e is =
            let there = find-there (λ (f : LoadFlag). same f.path path) flags found e in
            subst (λ p. IsFlagAt p flag) (same-true found.path path there.1) (subst (IsFlagAt found.path) (same_Some (flag_of found) flag is) (read.each found there.0).1.form)

  pub level_is : (lists : LevelRows) → AreRecordsIn kind pairs rows lists.records → AreCandidatesIn pairs rows lists.candidates → AreFlagsIn pairs rows lists.flags → IsLevelOf (IsOfKind kind) cells (level_of lists)
  level_is lists records candidates flags = record {
    records = spelled_records lists.records records;
    own_tables = owned lists.records records;
    forms = formed lists.records records;
    candidates = spelled_candidates lists.candidates candidates;
    candidate_paths = formed_candidates lists.candidates candidates;
    flags = spelled_flags lists.flags flags;
    flag_forms = formed_flags lists.flags flags;
  }
