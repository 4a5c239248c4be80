-- What stands at the rows of a level, and the level that these rows tell.
use Rattle.std.specs.Prelude.{◌≡◌, ℕ, ◌&&◌, Bool, true, false, List, [], Option, Some, None, if◌then◌else◌}
use Rattle.std.specs.FinMap as map
use Rattle.std.specs.Option.{option_and_then, option_map}
use Rattle.row_keys.specs.MetadataRow.{metadata_row, IsMetadataRow}
use Rattle.metadata_schema.specs.declared.mutation.Update.{Update}
use Rattle.metadata_schema.specs.declared.tablet.TabletRecord.{TabletRecord}
use Rattle.metadata_schema.specs.Bytes.{same}
use Rattle.metadata_schema.specs.Columns.{columns_of}
use Rattle.metadata_schema.specs.Paths.{IsFilePath}
use Rattle.metadata_schema.specs.Records.{IsWellFormed}
use Rattle.level_rows.specs.Chain.{same_end}
use Rattle.node_store.specs.PathsTo.{PathsTo}
use Rattle.store_meaning.specs.Levels.{Level, Flag as LoadedFlag, IsFlagAt, candidate_row, flag_row, lone_column}
use Rattle.store_meaning.specs.RowWrites.{LevelRow, MayStand, place_of}
use Rattle.store_meaning.specs.RowWrites.{RecordRow, CandidateRow, FlagRow}
use Rattle.state_reader.specs.declared.level.LevelKind.{LevelKind}
use Rattle.state_reader.specs.declared.level.LoadFlag.{LoadFlag}
use Rattle.state_reader.specs.LevelRows.{IsOfKind, flag_of}
use Rattle.state_reader.specs.RowReads.{flag_text}
use Rattle.level_index.specs.declared.entry.LevelEntry.{LevelEntry}
use Rattle.level_index.specs.declared.entry.LevelEntry.TheVariants.{Tablet, Candidate, Flag}

-- what stands at a row, by the row's bytes
abbrev pub Entries : Type 0
Entries = PathsTo LevelEntry

-- of which tablets the level tells, and what stands at its rows
pub record LevelMap : Type 0 where
  pub kind : LevelKind
  pub entries : Entries

-- ---- the level

-- the record, where it is that of this table and end row
abbrev pub record_in : List ℕ → Option (List ℕ) → LevelEntry → Option TabletRecord
record_in table end (Tablet tablet) = if same table tablet.table && same_end end tablet.end then Some tablet else None
record_in table end (Candidate path) = None
record_in table end (Flag flag) = None

-- the record, whichever it is
abbrev pub tablet_in : LevelEntry → Option TabletRecord
tablet_in (Tablet tablet) = Some tablet
tablet_in (Candidate path) = None
tablet_in (Flag flag) = None

-- a path to be deleted stands there
abbrev pub is_candidate : Option LevelEntry → Bool
is_candidate None = false
is_candidate (Some (Tablet tablet)) = false
is_candidate (Some (Candidate path)) = true
is_candidate (Some (Flag flag)) = false

abbrev pub flag_in : LevelEntry → Option LoadedFlag
flag_in (Tablet tablet) = None
flag_in (Candidate path) = None
flag_in (Flag flag) = Some (flag_of flag)

-- the look-ups of the rows
abbrev pub level_of : LevelMap → Level
level_of index = record {
  records = λ table end. option_and_then (record_in table end) (map.get index.entries (metadata_row table end));
  is_candidate = λ path. is_candidate (map.get index.entries (candidate_row path));
  flag = λ path. option_and_then flag_in (map.get index.entries (flag_row path));
}

-- ---- entries at their own rows

-- a record of such a level, at its tablet's row
pub record IsTabletAt (kind : LevelKind) (row : List ℕ) (tablet : TabletRecord) : Type 0 where
  pub of : IsOfKind kind tablet.table
  pub named : IsMetadataRow tablet.table tablet.end row
  pub form : IsWellFormed tablet

-- a path to be deleted, at its row
pub record IsCandidateAt (row path : List ℕ) : Type 0 where
  pub place : row ≡ candidate_row path
  pub form : IsFilePath path

-- a flag, at the row of its path
pub record IsLoadAt (row : List ℕ) (flag : LoadFlag) : Type 0 where
  pub place : row ≡ flag_row flag.path
  pub form : IsFlagAt flag.path (flag_of flag)

abbrev pub StandsAt : LevelKind → List ℕ → LevelEntry → Type 0
StandsAt kind row (Tablet tablet) = IsTabletAt kind row tablet
StandsAt kind row (Candidate path) = IsCandidateAt row path
StandsAt kind row (Flag flag) = IsLoadAt row flag

-- each entry stands at its own row
pub record IsLevelMap (kind : LevelKind) (entries : Entries) : Type 0 where
  pub own : (row : List ℕ) (entry : LevelEntry) → map.get entries row ≡ Some entry → StandsAt kind row entry

-- ---- rows

-- the columns of an entry
abbrev pub entry_columns : LevelEntry → List Update
entry_columns (Tablet tablet) = columns_of tablet
entry_columns (Candidate path) = lone_column []
entry_columns (Flag flag) = lone_column (flag_text flag.tid flag.number)

abbrev pub columns_at : Option LevelEntry → List Update
columns_at None = []
columns_at (Some entry) = entry_columns entry

-- the row is that of a tablet of such a level, of a path to be deleted, or of a path that is loaded
pub record IsRowOf (kind : LevelKind) (row : List ℕ) : Type 0 where
  pub to : LevelRow
  pub place : row ≡ place_of to
  pub may : MayStand (IsOfKind kind) to

-- the entry of a row that is to have this, or none
abbrev pub entry_of : LevelRow → Option LevelEntry
entry_of (RecordRow table end tablet) = option_map Tablet tablet
entry_of (CandidateRow path is_there) = if is_there then Some (Candidate path) else None
entry_of (FlagRow path flag) = option_map (λ loaded. Flag (record { path = path; tid = loaded.tid; number = loaded.number })) flag
