-- What stands at a row, as a row of the level.
use Rattle.std.proofs.Common.{◌≡◌, ℕ, ◌&&◌, true, false, cond, List, [], Option, Some, None, IfSome, refl, sym, ◌∙◌, ap, subst}
use Rattle.std.specs.FinMap as map
use Rattle.std.specs.Option.{option_and_then}
use Rattle.std.proofs.lemmas.Bool.{and_parts, and_from}
use Rattle.row_keys.specs.MetadataRow.{metadata_row, IsTabletName}
use Rattle.row_keys.proofs.MetadataRowsLemmas.{one_to_one}
use Rattle.metadata_schema.specs.declared.tablet.TabletRecord.{TabletRecord}
use Rattle.metadata_schema.specs.Bytes.{same}
use Rattle.level_rows.specs.Chain.{same_end}
use Rattle.level_rows.proofs.EndLemmas.{same-true, same-itself, same_end-true, same_end-refl}
use Rattle.store_meaning.specs.Levels.{record_columns, candidate_columns, flag_columns, candidate_row, flag_row}
use Rattle.store_meaning.specs.RowWrites.{LevelRow, RecordRow, CandidateRow, FlagRow, MayStand, place_of, columns_in, columns_to}
use Rattle.state_reader.specs.declared.level.LevelKind.{LevelKind}
use Rattle.state_reader.specs.LevelRows.{IsOfKind, flag_of}
use Rattle.level_index.specs.declared.entry.LevelEntry.{LevelEntry}
use Rattle.level_index.specs.declared.entry.LevelEntry.TheVariants.{Tablet, Candidate, Flag}
use Rattle.level_index.specs.Entries.{LevelMap, level_of, record_in, is_candidate, flag_in, StandsAt, IsLevelMap, entry_columns, columns_at, entry_of}
use Rattle.level_index.proofs.RowsApart.{tablet_no_candidate, tablet_no_flag, candidate_no_flag}

-- ---- a row from an entry, and an entry from a row

-- the row that has the entry
abbrev pub row_to : LevelEntry → LevelRow
row_to (Tablet tablet) = RecordRow tablet.table tablet.end (Some tablet)
row_to (Candidate path) = CandidateRow path true
row_to (Flag flag) = FlagRow flag.path (Some (flag_of flag))

-- the row with nothing at it
abbrev pub cleared : LevelRow → LevelRow
cleared (RecordRow table end tablet) = RecordRow table end None
cleared (CandidateRow path is_there) = CandidateRow path false
cleared (FlagRow path flag) = FlagRow path None

pub to_place : (kind : LevelKind) (row : List ℕ) (entry : LevelEntry) → StandsAt kind row entry → row ≡ place_of (row_to entry)
to_place kind row (Tablet tablet) at = at.named.is
to_place kind row (Candidate path) at = at.place
to_place kind row (Flag flag) at = at.place

pub to_form : (kind : LevelKind) (row : List ℕ) (entry : LevelEntry) → StandsAt kind row entry → MayStand (IsOfKind kind) (row_to entry)
to_form kind row (Tablet tablet) at = (at.of, at.named.name, record { name = at.named.name; table_is = refl; end_is = refl; form = at.form })
to_form kind row (Candidate path) at = λ _. at.form
to_form kind row (Flag flag) at = at.form

pub to_columns : (entry : LevelEntry) → columns_to (row_to entry) ≡ entry_columns entry
to_columns (Tablet tablet) = refl
to_columns (Candidate path) = refl
to_columns (Flag flag) = refl

pub to_entry : (entry : LevelEntry) → Some entry ≡ entry_of (row_to entry)
to_entry (Tablet tablet) = refl
to_entry (Candidate path) = refl
to_entry (Flag flag) = refl

pub cleared_place : (to : LevelRow) → place_of (cleared to) ≡ place_of to
cleared_place (RecordRow table end tablet) = refl
cleared_place (CandidateRow path is_there) = refl
cleared_place (FlagRow path flag) = refl

pub cleared_form : (kind : LevelKind) (to : LevelRow) → MayStand (IsOfKind kind) to → MayStand (IsOfKind kind) (cleared to)
cleared_form kind (RecordRow table end tablet) form = (form.0, form.1, tt)
cleared_form kind (CandidateRow path is_there) form = λ (e : false ≡ true). cc
cleared_form kind (FlagRow path flag) form = tt

pub cleared_columns : (to : LevelRow) → columns_to (cleared to) ≡ []
cleared_columns (RecordRow table end tablet) = refl
cleared_columns (CandidateRow path is_there) = refl
cleared_columns (FlagRow path flag) = refl

pub cleared_entry : (to : LevelRow) → None ≡ entry_of (cleared to)
cleared_entry (RecordRow table end tablet) = refl
cleared_entry (CandidateRow path is_there) = refl
cleared_entry (FlagRow path flag) = refl

-- the entry of a row stands at its place
pub entry_stands : (kind : LevelKind) (to : LevelRow) → MayStand (IsOfKind kind) to → IfSome (entry_of to) (StandsAt kind (place_of to))
entry_stands kind (RecordRow table end None) form = tt
entry_stands kind (RecordRow table end (Some tablet)) form = record {
  of = subst (IsOfKind kind) (sym form.2.table_is) form.0;
  named = record {
    name = subst (λ t. IsTabletName t tablet.end) (sym form.2.table_is) (subst (IsTabletName table) (sym form.2.end_is) form.1);
    is = sym (λ i. metadata_row (form.2.table_is i) (form.2.end_is i));
  };
  form = form.2.form;
}
entry_stands kind (CandidateRow path true) form = record { place = refl; form = form refl }
entry_stands kind (CandidateRow path false) form = tt
entry_stands kind (FlagRow path None) form = tt
entry_stands kind (FlagRow path (Some flag)) form = record { place = refl; form = form }

-- ---- what a level has at a row is what stands there

pub named_test : (table : List ℕ) (end : Option (List ℕ)) (t : TabletRecord) → table ≡ t.table → end ≡ t.end → (same table t.table && same_end end t.end) ≡ true
named_test table end t at ends = and_from (same table t.table) (same_end end t.end) (same-itself table t.table at) (ap (same_end end) (sym ends) ∙ same_end-refl end)

pub named_parts : (table : List ℕ) (end : Option (List ℕ)) (other : List ℕ) (high : Option (List ℕ)) → (same table other && same_end end high) ≡ true → (table ≡ other) × (end ≡ high)
named_parts table end other high e = let parts = and_parts (same table other) (same_end end high) e in (same-true table other parts.0, same_end-true end high parts.1)

module _ (index : LevelMap) (is : IsLevelMap index.kind index.entries) where
  pub stands_in : (to : LevelRow) → MayStand (IsOfKind index.kind) to → columns_in (level_of index) to ≡ columns_at (map.get index.entries (place_of to))
  stands_in (RecordRow table end tablet) form = by (map.get index.entries (metadata_row table end)) refl
    where
      by : (o : Option LevelEntry) → map.get index.entries (metadata_row table end) ≡ o → record_columns (option_and_then (record_in table end) o) ≡ columns_at o
      by None e = refl
      by (Some (Tablet t)) e =
          let at = is.own (metadata_row table end) (Tablet t) e in
          let names = one_to_one table t.table end t.end form.1 at.named.name at.named.is in
          ap (λ b. record_columns (cond b (Some t) None)) (named_test table end t names.0 names.1)
      by (Some (Candidate path)) e = absurd (tablet_no_candidate table end path form.1 (is.own (metadata_row table end) (Candidate path) e).place)
      by (Some (Flag flag)) e = absurd (tablet_no_flag table end flag.path form.1 (is.own (metadata_row table end) (Flag flag) e).place)
  stands_in (CandidateRow path is_there) form = by (map.get index.entries (candidate_row path)) refl
    where
      by : (o : Option LevelEntry) → map.get index.entries (candidate_row path) ≡ o → candidate_columns (is_candidate o) ≡ columns_at o
      by None e = refl
      by (Some (Tablet t)) e = absurd (let at = is.own (candidate_row path) (Tablet t) e in tablet_no_candidate t.table t.end path at.named.name (sym at.named.is))
      by (Some (Candidate other)) e = refl
      by (Some (Flag flag)) e = absurd (candidate_no_flag path flag.path (is.own (candidate_row path) (Flag flag) e).place)
  stands_in (FlagRow path flag) form = by (map.get index.entries (flag_row path)) refl
    where
      by : (o : Option LevelEntry) → map.get index.entries (flag_row path) ≡ o → flag_columns (option_and_then flag_in o) ≡ columns_at o
      by None e = refl
      by (Some (Tablet t)) e = absurd (let at = is.own (flag_row path) (Tablet t) e in tablet_no_flag t.table t.end path at.named.name (sym at.named.is))
      by (Some (Candidate other)) e = absurd (candidate_no_flag other path (sym (is.own (flag_row path) (Candidate other) e).place))
      by (Some (Flag other)) e = refl
