-- Why rows tell of nothing.
use Rattle.std.proofs.Common.{◌≡◌, ◌≢◌, ◌↔◌, ℕ, ◌<◌, ◌^◌, Bool, true, false, List, [], ◌∷◌, Contains, Option, Some, None, Result, Ok, Err, refl, sym, ◌∙◌, ap, subst}
use Rattle.std.specs.Prelude.{IfSome, IsSome, IsErrOf}
use Rattle.std.specs.List.{All}
use Rattle.std.proofs.lemmas.List.Elements.{All-nil, All-cons}
use Rattle.row_keys.specs.MetadataRow.{IsMetadataRow}
use Rattle.metadata_schema.specs.declared.mutation.Update.{Update}
use Rattle.metadata_schema.specs.declared.tablet.TabletRecord.{TabletRecord}
use Rattle.metadata_schema.specs.declared.fault.SchemaFault.{SchemaFault}
use Rattle.metadata_schema.specs.declared.fault.SchemaFault.TheVariants.{NoPrev, BadColumn, BadValue, NoMemory}
use Rattle.metadata_schema.specs.Columns.{columns_of, written}
use Rattle.metadata_schema.specs.Paths.{IsFilePath}
use Rattle.metadata_schema.specs.Refusals.{AreColumns, HasPrev, HasColumns, HasValues}
use Rattle.metadata_schema.proofs.AcceptedLemmas.{are_columns, prev_there, columns_named, values_formed}
use Rattle.cell_merge.specs.declared.cell.Cell.{Cell}
use Rattle.cell_merge.specs.declared.cell.Pair.{Pair}
use Rattle.cell_merge.specs.Newest.{IsNewest}
use Rattle.store_meaning.specs.Levels.{Flag, SpellsRow, IsRecordAt, IsFlagAt, record_columns, candidate_columns, flag_columns, candidate_row, flag_row, lone_column}
use Rattle.state_reader.specs.declared.level.LevelKind.{LevelKind}
use Rattle.state_reader.specs.Columns.{columns_in, HasPair}
use Rattle.state_reader.specs.declared.level.LevelFault.{LevelFault}
use Rattle.state_reader.specs.LevelRows.{IsOfKind, LevelCause, IsBadTablet, IsBadCandidate, IsBadFlag}
use Rattle.state_reader.specs.RowReads.{flag_text}
use Rattle.state_reader.proofs.ColumnLemmas.{some_in, spells_in, spelled_once}
use Rattle.state_reader.proofs.ColumnLemmas as column

-- a refusal other than want of memory says that something of the columns isn't as it should be
pub refused : (us : List Update) (r : Result TabletRecord SchemaFault) (fault : SchemaFault) → r ≡ Err fault → (fault ≡ NoMemory → ⊥) → (IsErrOf r NoPrev ↔ (HasPrev us → ⊥)) → (IsErrOf r BadColumn ↔ (HasPrev us × (HasColumns us → ⊥)))
    → (IsErrOf r BadValue → HasPrev us × HasColumns us × (HasValues us → ⊥)) → HasPrev us → HasColumns us → HasValues us → ⊥
refused us r NoPrev is other no_prev bad_column bad_value prev columns values = no_prev.0 is prev
refused us r BadColumn is other no_prev bad_column bad_value prev columns values = (bad_column.0 is).1 columns
refused us r BadValue is other no_prev bad_column bad_value prev columns values = (bad_value is).2 values
refused us r NoMemory is other no_prev bad_column bad_value prev columns values = other refl

pub lone_are : (value : List ℕ) → AreColumns (lone_column value)
lone_are value = record { written = All-cons (λ (u : Update). IsSome u.value) (written [] [] value) [] refl (All-nil (λ (u : Update). IsSome u.value)); order = refl }

module _ (cells : List Cell) (pairs : List Pair) (newest : IsNewest cells pairs) (row : List ℕ) (has : HasPair pairs row) where
  one_spelling : (us : List Update) → AreColumns us → SpellsRow cells row us → columns_in pairs row ≡ us
  one_spelling us are spells = spelled_once cells row (columns_in pairs row) us (spells_in cells pairs newest row) spells (column.are_columns row pairs newest.rising) are

  pub bad_tablet : (kind : LevelKind) (table : List ℕ) (end : Option (List ℕ)) → IsOfKind kind table → IsMetadataRow table end row
      → (HasPrev (columns_in pairs row) → HasColumns (columns_in pairs row) → HasValues (columns_in pairs row) → ⊥) → IsBadTablet kind cells row
  bad_tablet kind table end of named refuses = record { table = table; end = end; of = of; named = named; none = by }
    where
      by : (tablet : Option TabletRecord) → IfSome tablet (IsRecordAt table end) → SpellsRow cells row (record_columns tablet) → ⊥
      by None at spells = some_in cells pairs newest row has spells
      by (Some tablet) at spells =
          let is = sym (one_spelling (columns_of tablet) (are_columns tablet at.form.order) spells) in
          refuses (subst HasPrev is (prev_there tablet)) (subst HasColumns is (columns_named tablet at.form)) (subst HasValues is (values_formed tablet at.form))

  pub bad_candidate : (path : List ℕ) → row ≡ candidate_row path → (columns_in pairs row ≡ lone_column [] → IsFilePath path → ⊥) → IsBadCandidate cells row
  bad_candidate path place refuses = record { path = path; place = place; none = by }
    where
      by : (is_there : Bool) → (is_there ≡ true → IsFilePath path) → SpellsRow cells row (candidate_columns is_there) → ⊥
      by true form spells = refuses (one_spelling (lone_column []) (lone_are []) spells) (form refl)
      by false form spells = some_in cells pairs newest row has spells

  pub bad_flag : (path : List ℕ) → row ≡ flag_row path → ((tid number : ℕ) → tid < 2 ^ 64 → number < 2 ^ 64 → columns_in pairs row ≡ lone_column (flag_text tid number) → IsFilePath path → ⊥) → IsBadFlag cells row
  bad_flag path place refuses = record { path = path; place = place; none = by }
    where
      by : (flag : Option Flag) → IfSome flag (IsFlagAt path) → SpellsRow cells row (flag_columns flag) → ⊥
      by None at spells = some_in cells pairs newest row has spells
      by (Some flag) at spells = refuses flag.tid flag.number at.tid at.number (one_spelling (lone_column (flag_text flag.tid flag.number)) (lone_are (flag_text flag.tid flag.number)) spells) at.path_is

-- why a row tells of nothing, as one fact of the fault
pub record IsCauseAt (kind : LevelKind) (pairs : List Pair) (row : List ℕ) (fault : LevelFault) : Type 0 where
  pub why : (cells : List Cell) → IsNewest cells pairs → HasPair pairs row → LevelCause kind cells fault

-- the same of either kind of level
pub record IsCauseOfBoth (pairs : List Pair) (row : List ℕ) (fault : LevelFault) : Type 0 where
  pub why : (kind : LevelKind) (cells : List Cell) → IsNewest cells pairs → HasPair pairs row → LevelCause kind cells fault
