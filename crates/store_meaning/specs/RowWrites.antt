-- One row of a level is written: what the level, and all that is read of the ground, becomes.
use Rattle.std.specs.Prelude.{◌≡◌, ◌≢◌, ℕ, ◌&&◌, Bool, true, List, [], ◌∷◌, Option, Some, IfSome, unwrap_or, if◌then◌else◌}
use Rattle.std.specs.FinMap as map_of
use Rattle.row_keys.specs.Forms.{IsTableId}
use Rattle.row_keys.specs.MetadataRow.{metadata_row, IsTabletName}
use Rattle.metadata_schema.specs.declared.mutation.Mutation.{Mutation}
use Rattle.metadata_schema.specs.declared.mutation.Update.{Update}
use Rattle.metadata_schema.specs.declared.tablet.TabletRecord.{TabletRecord}
use Rattle.metadata_schema.specs.Between.{LeadsBetween}
use Rattle.metadata_schema.specs.Bytes.{same}
use Rattle.metadata_schema.specs.Paths.{IsFilePath}
use Rattle.cell_merge.specs.declared.cell.Cell.{Cell}
use Rattle.cell_merge.specs.Changes.{Covers}
use Rattle.level_rows.specs.Chain.{Rows, IsChain, rows_of, same_end}
use Rattle.node_store.specs.Nodes.{Nodes}
use Rattle.store_layout.specs.Nodes.{root_path}
use Rattle.store_meaning.specs.Ground.{Ground}
use Rattle.store_meaning.specs.Content.{contents_of}
use Rattle.store_meaning.specs.Levels.{Level, Flag, Reading, IsRecordAt, IsFlagAt, IsRootRecord, IsMetadataTable, candidate_row, flag_row, record_columns, candidate_columns, flag_columns, root_id, metadata_id, root_rows, metadata_rows}
use Rattle.store_meaning.specs.Writes.{appended, StandsIn}

-- ---- one row of a level

-- a row of a level and what it is to have: a record or none, a candidate or none, a flag or none
pub data LevelRow : Type 0 where
  RecordRow : (table : List ℕ) (end : Option (List ℕ)) (tablet : Option TabletRecord) → LevelRow
  CandidateRow : (path : List ℕ) (is_there : Bool) → LevelRow
  FlagRow : (path : List ℕ) (flag : Option Flag) → LevelRow

-- where the row stands
abbrev pub place_of : LevelRow → List ℕ
place_of (RecordRow table end tablet) = metadata_row table end
place_of (CandidateRow path is_there) = candidate_row path
place_of (FlagRow path flag) = flag_row path

-- the columns that it has in a level
abbrev pub columns_in : Level → LevelRow → List Update
columns_in level (RecordRow table end tablet) = record_columns (level.records table end)
columns_in level (CandidateRow path is_there) = candidate_columns (level.is_candidate path)
columns_in level (FlagRow path flag) = flag_columns (level.flag path)

-- the columns that it is to have
abbrev pub columns_to : LevelRow → List Update
columns_to (RecordRow table end tablet) = record_columns tablet
columns_to (CandidateRow path is_there) = candidate_columns is_there
columns_to (FlagRow path flag) = flag_columns flag

-- what it is to have is of its form
abbrev pub MayStand : (List ℕ → Type 0) → LevelRow → Type 0
MayStand is_of (RecordRow table end tablet) = is_of table × IsTabletName table end × IfSome tablet (IsRecordAt table end)
MayStand is_of (CandidateRow path is_there) = is_there ≡ true → IsFilePath path
MayStand is_of (FlagRow path flag) = IfSome flag (IsFlagAt path)

-- the level with this row as it is to be, and every other one as it was
abbrev pub with_level_row : Level → LevelRow → Level
with_level_row level (RecordRow table end tablet) = record level { records = λ other high. if same other table && same_end high end then tablet else level.records other high }
with_level_row level (CandidateRow path is_there) = record level { is_candidate = λ other. if same other path then is_there else level.is_candidate other }
with_level_row level (FlagRow path flag) = record level { flag = λ other. if same other path then flag else level.flag other }

-- ---- the mutation that writes it

pub record RowWrite : Type 0 where
  pub log : List ℕ
  pub mutation : Mutation
  pub row : LevelRow

-- the ground once it stands in its log
abbrev pub row_written : Ground → RowWrite → Ground
row_written known write = appended known write.log write.mutation

-- the mutation leads from the columns that its row has to those that it is to have
pub record LeadsRow (is_of : List ℕ → Type 0) (level : Level) (write : RowWrite) : Type 0 where
  pub place : write.mutation.row ≡ place_of write.row
  pub updates : LeadsBetween (columns_in level write.row) (columns_to write.row) write.mutation.updates
  pub form : MayStand is_of write.row

-- the cells that are told, or none
abbrev pub told_cells : Option (List Cell) → List Cell
told_cells told = unwrap_or told []

-- ---- a row of the metadata table: it tells of user tables

pub record WritesUserRow (known : Ground) (reading : Reading) (write : RowWrite) : Type 0 where
  pub table : write.mutation.table ≡ metadata_id
  pub stands : StandsIn known (metadata_rows reading) reading.chain write.log write.mutation
  pub leads : LeadsRow IsTableId reading.users write

-- this row of user tables is as written, and all else is as it was
abbrev pub user_row_written : Ground → Reading → RowWrite → Reading
user_row_written known reading write =
    record reading { metadata_cells = told_cells (contents_of (row_written known write) (metadata_rows reading) reading.chain); users = with_level_row reading.users write.row }

-- ---- a row of the root tablet: it tells of `!0`

-- the rows of `!0` with this one as it is to be
abbrev pub metadata_rows_with : Reading → RowWrite → Rows
metadata_rows_with reading write = (with_level_row reading.metadata write.row).records metadata_id

-- The chain of `!0` is this one then, and its cells leave each key what it had.
pub record WritesMetadataRow (known : Ground) (reading : Reading) (write : RowWrite) (chain : List TabletRecord) : Type 0 where
  pub table : write.mutation.table ≡ root_id
  pub stands : StandsIn known (root_rows reading) (reading.root ∷ []) write.log write.mutation
  pub leads : LeadsRow IsMetadataTable reading.metadata write
  pub is_chain : IsChain (metadata_rows_with reading write) chain
  pub cells : List Cell
  pub content : contents_of known (metadata_rows_with reading write) chain ≡ Some cells
  pub covers : Covers cells reading.metadata_cells

-- this row of `!0` is as written, with the chain that it gives, and all user tables' rows are as they were
abbrev pub metadata_row_written : Ground → Reading → RowWrite → List TabletRecord → Reading
metadata_row_written known reading write chain =
    record reading {
      root_cells = told_cells (contents_of (row_written known write) (root_rows reading) (reading.root ∷ []));
      metadata = with_level_row reading.metadata write.row;
      chain = chain;
      metadata_cells = told_cells (contents_of known (metadata_rows_with reading write) chain);
    }

-- ---- the node of the root record

-- the node of the root record has this one, no other node changes, and its cells leave each key what it had
pub record WritesRoot (known : Ground) (reading : Reading) (nodes : Nodes) (root : TabletRecord) : Type 0 where
  pub node : IsRootRecord nodes root
  pub others : (path : List ℕ) → path ≢ root_path → map_of.get nodes path ≡ map_of.get known.nodes path
  pub is_chain : IsChain (rows_of root_id (root ∷ [])) (root ∷ [])
  pub cells : List Cell
  pub content : contents_of known (rows_of root_id (root ∷ [])) (root ∷ []) ≡ Some cells
  pub covers : Covers cells reading.root_cells

-- the root record is this one, and all levels are as they were
abbrev pub root_written : Ground → Reading → TabletRecord → Reading
root_written known reading root = record reading { root = root; root_cells = told_cells (contents_of known (rows_of root_id (root ∷ [])) (root ∷ [])) }
