-- What single rows tell, by their columns.
use Rattle.std.specs.Prelude.{◌≡◌, ℕ, List, [], ◌∷◌, ◌++◌, Option, Contains}
use Rattle.std.specs.Fmt.{decimal}
use Rattle.row_keys.specs.MetadataRow.{IsMetadataRow}
use Rattle.metadata_schema.specs.declared.tablet.TabletRecord.{TabletRecord}
use Rattle.metadata_schema.specs.Paths.{IsFilePath}
use Rattle.metadata_schema.specs.Records.{IsRecordOf}
use Rattle.cell_merge.specs.declared.cell.Pair.{Pair}
use Rattle.store_meaning.specs.Levels.{IsFlagAt, candidate_row, flag_row, lone_column}
use Rattle.state_reader.specs.declared.level.LevelKind.{LevelKind}
use Rattle.state_reader.specs.declared.level.LoadFlag.{LoadFlag}
use Rattle.state_reader.specs.Columns.{columns_in}
use Rattle.state_reader.specs.LevelRows.{IsOfKind, flag_of}

-- ---- one row

-- the record of the row, of which such a level tells
pub record IsRecordIn (kind : LevelKind) (pairs : List Pair) (row : List ℕ) (tablet : TabletRecord) : Type 0 where
  pub of : IsOfKind kind tablet.table
  pub is : IsRecordOf row (columns_in pairs row) tablet

-- such a level tells of no tablet of this row
abbrev pub IsNoTabletRow : LevelKind → List ℕ → Type 0
IsNoTabletRow kind row = (table : List ℕ) (end : Option (List ℕ)) → IsOfKind kind table → IsMetadataRow table end row → ⊥

-- the row is that of this path to be deleted
pub record IsCandidateIn (pairs : List Pair) (row path : List ℕ) : Type 0 where
  pub place : row ≡ candidate_row path
  pub form : IsFilePath path
  pub columns : columns_in pairs row ≡ lone_column []

abbrev pub IsNoCandidateRow : List ℕ → Type 0
IsNoCandidateRow row = (path : List ℕ) → row ≡ candidate_row path → ⊥

-- transaction, comma and number
abbrev pub flag_text : ℕ → ℕ → List ℕ
flag_text tid number = decimal tid ++ 44 ∷ decimal number

-- the row is that of this flag
pub record IsFlagIn (pairs : List Pair) (row : List ℕ) (flag : LoadFlag) : Type 0 where
  pub place : row ≡ flag_row flag.path
  pub form : IsFlagAt flag.path (flag_of flag)
  pub columns : columns_in pairs row ≡ lone_column (flag_text flag.tid flag.number)

abbrev pub IsNoFlagRow : List ℕ → Type 0
IsNoFlagRow row = (path : List ℕ) → row ≡ flag_row path → ⊥

-- ---- several rows

-- these are the records of those rows
pub record AreRecordsIn (kind : LevelKind) (pairs : List Pair) (rows : List (List ℕ)) (records : List TabletRecord) : Type 0 where
  pub each : (tablet : TabletRecord) → Contains records tablet → (row : List ℕ) × IsRecordIn kind pairs row tablet
  pub all : (row : List ℕ) → Contains rows row → (table : List ℕ) (end : Option (List ℕ)) → IsOfKind kind table → IsMetadataRow table end row
      → (tablet : TabletRecord) × Contains records tablet × IsRecordIn kind pairs row tablet

-- these are the candidates of those rows
pub record AreCandidatesIn (pairs : List Pair) (rows paths : List (List ℕ)) : Type 0 where
  pub each : (path : List ℕ) → Contains paths path → (row : List ℕ) × IsCandidateIn pairs row path
  pub all : (row : List ℕ) → Contains rows row → (path : List ℕ) → row ≡ candidate_row path → Contains paths path

-- these are the flags of those rows
pub record AreFlagsIn (pairs : List Pair) (rows : List (List ℕ)) (flags : List LoadFlag) : Type 0 where
  pub each : (flag : LoadFlag) → Contains flags flag → (row : List ℕ) × IsFlagIn pairs row flag
  pub all : (row : List ℕ) → Contains rows row → (path : List ℕ) → row ≡ flag_row path → (flag : LoadFlag) × Contains flags flag × (flag.path ≡ path)
