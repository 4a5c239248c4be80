-- A level as finite lists, and why cells tell of none.
use Rattle.std.specs.Prelude.{◌≡◌, ℕ, Bool, true, List, Option, IfSome, find}
use Rattle.std.specs.List.{list_any}
use Rattle.std.specs.Option.{option_map}
use Rattle.row_keys.specs.Forms.{IsTableId}
use Rattle.row_keys.specs.MetadataRow.{IsMetadataRow}
use Rattle.metadata_schema.specs.declared.tablet.TabletRecord.{TabletRecord}
use Rattle.metadata_schema.specs.Bytes.{same}
use Rattle.metadata_schema.specs.Paths.{IsFilePath}
use Rattle.cell_merge.specs.declared.cell.Cell.{Cell}
use Rattle.level_rows.specs.Chain.{rows_of}
use Rattle.store_meaning.specs.Levels.{Level, Flag, IsLevelOf, IsRecordAt, IsFlagAt, SpellsRow, IsMetadataTable, candidate_row, flag_row, record_columns, candidate_columns, flag_columns}
use Rattle.state_reader.specs.declared.level.LevelKind.{LevelKind}
use Rattle.state_reader.specs.declared.level.LevelKind.TheVariants.{Metadata, Users}
use Rattle.state_reader.specs.declared.level.LoadFlag.{LoadFlag}
use Rattle.state_reader.specs.declared.level.LevelRows.{LevelRows}
use Rattle.state_reader.specs.declared.level.LevelFault.{LevelFault}
use Rattle.state_reader.specs.declared.level.LevelFault.TheVariants.{Bad, NoMemory}
use Rattle.state_reader.specs.declared.level.BadRow.{BadRow}
use Rattle.state_reader.specs.declared.level.BadRow.TheVariants.{Tablet, Candidate, Flag as FlagRow}

-- the tables of which such a level tells
abbrev pub IsOfKind : LevelKind → List ℕ → Type 0
IsOfKind Metadata = IsMetadataTable
IsOfKind Users = IsTableId

-- ---- the level

abbrev pub flag_of : LoadFlag → Flag
flag_of flag = record { tid = flag.tid; number = flag.number }

-- the flag of a path; of several the first
abbrev pub flag_at : List LoadFlag → List ℕ → Option Flag
flag_at flags path = option_map flag_of (find (λ flag. same flag.path path) flags)

-- the look-ups of these lists
abbrev pub level_of : LevelRows → Level
level_of rows = record {
  records = λ table. rows_of table rows.records;
  is_candidate = λ path. list_any (same path) rows.candidates;
  flag = flag_at rows.flags;
}

-- ---- why there is none

-- the row is that of a tablet of which such a level tells, and what the cells have there is no record's, and not nothing
pub record IsBadTablet (kind : LevelKind) (cells : List Cell) (row : List ℕ) : Type 0 where
  pub table : List ℕ
  pub end : Option (List ℕ)
  pub of : IsOfKind kind table
  pub named : IsMetadataRow table end row
  pub none : (tablet : Option TabletRecord) → IfSome tablet (IsRecordAt table end) → SpellsRow cells row (record_columns tablet) → ⊥

-- the row is that of a path to be deleted, and what the cells have there is no candidate's, and not nothing
pub record IsBadCandidate (cells : List Cell) (row : List ℕ) : Type 0 where
  pub path : List ℕ
  pub place : row ≡ candidate_row path
  pub none : (is_there : Bool) → (is_there ≡ true → IsFilePath path) → SpellsRow cells row (candidate_columns is_there) → ⊥

-- the row is that of a path that is loaded, and what the cells have there is no flag's, and not nothing
pub record IsBadFlag (cells : List Cell) (row : List ℕ) : Type 0 where
  pub path : List ℕ
  pub place : row ≡ flag_row path
  pub none : (flag : Option Flag) → IfSome flag (IsFlagAt path) → SpellsRow cells row (flag_columns flag) → ⊥

-- the cells tell of no level at this row
abbrev pub IsBadRow : LevelKind → List Cell → BadRow → Type 0
IsBadRow kind cells (Tablet row) = IsBadTablet kind cells row
IsBadRow kind cells (Candidate row) = IsBadCandidate cells row
IsBadRow kind cells (FlagRow row) = IsBadFlag cells row

-- why no level is read; want of memory is free
abbrev pub LevelCause : LevelKind → List Cell → LevelFault → Type 0
LevelCause kind cells (Bad row) = IsBadRow kind cells row
LevelCause kind cells NoMemory = Unit {0}

-- no level is what the cells tell
pub record HasNoLevel (kind : LevelKind) (cells : List Cell) : Type 0 where
  pub none : (level : Level) → IsLevelOf (IsOfKind kind) cells level → ⊥
