-- The three levels of records: the root tablet's, those of the metadata table's tablets, and those of user tables' tablets.
use Rattle.std.specs.Prelude.{◌≡◌, ℕ, ◌<◌, ◌^◌, Bool, true, false, List, [], ◌∷◌, ◌++◌, codes, Option, Some, None}
use Rattle.std.specs.FinMap as map_of
use Rattle.std.specs.Fmt.{decimal}
use Rattle.row_keys.specs.Forms.{IsTableId}
use Rattle.row_keys.specs.MetadataRow.{metadata_row, IsTabletName}
use Rattle.metadata_schema.specs.declared.mutation.Update.{Update}
use Rattle.metadata_schema.specs.declared.tablet.TabletRecord.{TabletRecord}
use Rattle.metadata_schema.specs.Columns.{columns_of, column_at, written}
use Rattle.metadata_schema.specs.Paths.{IsFilePath}
use Rattle.metadata_schema.specs.Records.{IsWellFormed}
use Rattle.cell_merge.specs.declared.cell.Cell.{Cell}
use Rattle.cell_merge.specs.Newest.{newest_at}
use Rattle.level_rows.specs.Chain.{Rows, IsChain, rows_of}
use Rattle.node_store.specs.declared.changes.Node.{Node}
use Rattle.node_store.specs.Nodes.{Nodes}
use Rattle.store_layout.specs.Nodes.{root_path, root_value}
use Rattle.store_meaning.specs.Ground.{Ground}
use Rattle.store_meaning.specs.Content.{contents_of}

-- ---- rows as columns

-- the newest of the cells at the row are these columns, and no others
pub record SpellsRow (cells : List Cell) (row : List ℕ) (columns : List Update) : Type 0 where
  pub each : (family qualifier : List ℕ) → newest_at cells (record { row = row; family = family; qualifier = qualifier }) ≡ column_at columns family qualifier

-- a flag's transaction, and the number of its file
pub record Flag : Type 0 where
  pub tid : ℕ
  pub number : ℕ

-- a flag of a file's path
pub record IsFlagAt (path : List ℕ) (flag : Flag) : Type 0 where
  pub path_is : IsFilePath path
  pub tid : flag.tid < 2 ^ 64
  pub number : flag.number < 2 ^ 64

-- one column, of an empty family and qualifier
abbrev pub lone_column : List ℕ → List Update
lone_column value = written [] [] value ∷ []

-- `~del` and the path
abbrev pub candidate_row : List ℕ → List ℕ
candidate_row path = codes "~del" ++ path

-- `~blip` and the path
abbrev pub flag_row : List ℕ → List ℕ
flag_row path = codes "~blip" ++ path

-- a tablet's columns, or none where there is no record
abbrev pub record_columns : Option TabletRecord → List Update
record_columns None = []
record_columns (Some tablet) = columns_of tablet

-- an empty value where the path is a candidate
abbrev pub candidate_columns : Bool → List Update
candidate_columns true = lone_column []
candidate_columns false = []

-- transaction, comma and number
abbrev pub flag_columns : Option Flag → List Update
flag_columns None = []
flag_columns (Some flag) = lone_column (decimal flag.tid ++ 44 ∷ decimal flag.number)

-- ---- a level

-- what the cells of a level tell: records by table and end row, candidates to be deleted and flags of loads by path
pub record Level : Type 0 where
  pub records : List ℕ → Rows
  pub is_candidate : List ℕ → Bool
  pub flag : List ℕ → Option Flag

-- a record as it stands at this table and end row
pub record IsRecordAt (table : List ℕ) (end : Option (List ℕ)) (tablet : TabletRecord) : Type 0 where
  pub name : IsTabletName table end
  pub table_is : tablet.table ≡ table
  pub end_is : tablet.end ≡ end
  pub form : IsWellFormed tablet

-- The newest of these cells are the columns of the level, at the rows of all tablets of such tables, of candidates and of flags.
pub record IsLevelOf (is_of : List ℕ → Type 0) (cells : List Cell) (level : Level) : Type 0 where
  pub records : (table : List ℕ) (end : Option (List ℕ)) → is_of table → IsTabletName table end → SpellsRow cells (metadata_row table end) (record_columns (level.records table end))
  pub own_tables : (table : List ℕ) (end : Option (List ℕ)) (tablet : TabletRecord) → level.records table end ≡ Some tablet → is_of table
  pub forms : (table : List ℕ) (end : Option (List ℕ)) (tablet : TabletRecord) → level.records table end ≡ Some tablet → IsRecordAt table end tablet
  pub candidates : (path : List ℕ) → SpellsRow cells (candidate_row path) (candidate_columns (level.is_candidate path))
  pub candidate_paths : (path : List ℕ) → level.is_candidate path ≡ true → IsFilePath path
  pub flags : (path : List ℕ) → SpellsRow cells (flag_row path) (flag_columns (level.flag path))
  pub flag_forms : (path : List ℕ) (flag : Flag) → level.flag path ≡ Some flag → IsFlagAt path flag

-- ---- the three levels

abbrev pub root_id : List ℕ
root_id = codes "+r"

abbrev pub metadata_id : List ℕ
metadata_id = codes "!0"

-- the node `/root` has this record
pub record IsRootRecord (nodes : Nodes) (root : TabletRecord) : Type 0 where
  pub node : Node
  pub there : map_of.get nodes root_path ≡ Some node
  pub value : node.value ≡ root_value root
  pub at : IsRecordAt root_id None root

abbrev pub IsMetadataTable : List ℕ → Type 0
IsMetadataTable table = table ≡ metadata_id

-- What is read of a ground, level by level. Chains are from the last tablet down.
pub record Reading : Type 0 where
  pub root : TabletRecord
  -- the cells of the root tablet, and what they tell of `!0`
  pub root_cells : List Cell
  pub metadata : Level
  -- the tablets of `!0`, their cells, and what these tell of all tables
  pub chain : List TabletRecord
  pub metadata_cells : List Cell
  pub users : Level

-- `+r` has the root tablet alone
abbrev pub root_rows : Reading → Rows
root_rows reading = rows_of root_id (reading.root ∷ [])

abbrev pub metadata_rows : Reading → Rows
metadata_rows reading = reading.metadata.records metadata_id

-- `/root` gives the first record, the cells of `+r` the records of `!0`, and the cells of `!0` those of all other tablets
pub record IsReadingOf (known : Ground) (reading : Reading) : Type 0 where
  pub root : IsRootRecord known.nodes reading.root
  pub root_chain : IsChain (root_rows reading) (reading.root ∷ [])
  pub root_content : contents_of known (root_rows reading) (reading.root ∷ []) ≡ Some reading.root_cells
  pub metadata : IsLevelOf IsMetadataTable reading.root_cells reading.metadata
  pub chain : IsChain (metadata_rows reading) reading.chain
  pub content : contents_of known (metadata_rows reading) reading.chain ≡ Some reading.metadata_cells
  pub users : IsLevelOf IsTableId reading.metadata_cells reading.users
