-- What a new store has: its tablets, its nodes and its files.
use Rattle.std.specs.Prelude.{◌≡◌, ◌≢◌, ℕ, List, [], ◌∷◌, ◌++◌, length, map, codes, Some, None, Ok}
use Rattle.std.specs.FinMap as map_of
use Rattle.std.specs.Fmt.{decimal}
use Rattle.host_model.specs.Picture.{Image, file_at}
use Rattle.metadata_schema.specs.declared.mutation.Update.{Update}
use Rattle.metadata_schema.specs.declared.tablet.TabletRecord.{TabletRecord}
use Rattle.metadata_schema.specs.Columns.{columns_of}
use Rattle.metadata_schema.specs.Records.{new_tablet}
use Rattle.row_keys.specs.MetadataRow.{metadata_row}
use Rattle.cell_merge.specs.declared.cell.Cell.{Cell}
use Rattle.data_files.specs.Files.{HoldsCells, spelled_file}
use Rattle.node_store.specs.declared.changes.NodeOp.{NodeOp}
use Rattle.node_store.specs.declared.changes.NodeOp.TheVariants.{Create}
use Rattle.node_store.specs.Nodes.{Nodes, multi_applied}
use Rattle.node_store.specs.Image.{HasNodes, IsUnborn}
use Rattle.store_layout.specs.Names.{nodes_name, file_of}
use Rattle.store_layout.specs.Nodes.{instance_path, instance_value, root_path, root_value, next_table_path, next_transaction_path, next_name_path, next_session_path, next_lock_path}

-- ---- a new store's tablets

-- the tablet of the rows that tell of tablets, up to the row `~`
abbrev pub table_info : TabletRecord
table_info = new_tablet (codes "!0") (Some (codes "~")) None (codes "table_info")

-- the tablet of the rows behind them
abbrev pub last_metadata : TabletRecord
last_metadata = new_tablet (codes "!0") None (Some (codes "~")) (codes "default_tablet")

-- what an update writes at a row and a time
abbrev pub cell_of : List ℕ → ℕ → Update → Cell
cell_of row time update = record { key = record { row = row; family = update.family; qualifier = update.qualifier }; time = time; value = update.value }

-- the cells of a tablet's record, at its row, written at time 1
abbrev pub record_cells : TabletRecord → List Cell
record_cells tablet = map (cell_of (metadata_row tablet.table tablet.end) 1) (columns_of tablet)

-- the cells of the first file of the root tablet
abbrev pub first_cells : List Cell
first_cells = record_cells table_info ++ record_cells last_metadata

abbrev pub root_file_path : List ℕ
root_file_path = codes "+r/root_tablet/A0000001.rf"

abbrev pub root_file : List ℕ
root_file = file_of root_file_path

-- the root tablet of a new store, with that file
abbrev pub first_root : TabletRecord
first_root =
    record (new_tablet (codes "+r") None None (codes "root_tablet")) { time = 1; files = record { path = root_file_path; size = length (spelled_file first_cells); entries = length first_cells; time = None } ∷ [] }

-- ---- a new store's nodes

-- a number that is drawn next
abbrev pub counter : List ℕ → ℕ → NodeOp
counter path number = Create path (decimal number)

-- the changes that make a store: the names of files are drawn from 2 on, all else from 1
abbrev pub first_ops : List NodeOp
first_ops =
    Create instance_path instance_value ∷ Create root_path (root_value first_root) ∷ counter next_table_path 1 ∷ counter next_transaction_path 1 ∷ counter next_name_path 2 ∷ counter next_session_path 1 ∷ counter next_lock_path 1 ∷ []

-- no file is there but these two
abbrev pub HasNoOthers : Image → Type 0
HasNoOthers image = (name : List ℕ) → name ≢ nodes_name → name ≢ root_file → file_at image name ≡ None

-- no store was begun: the file of the nodes has no open gate, and no other file is there but the root tablet's first
pub record IsUnbornDisk (image : Image) : Type 0 where
  pub nodes : IsUnborn nodes_name image
  pub others : HasNoOthers image

-- the disk has a new store, and nothing else
pub record IsNewStore (image : Image) : Type 0 where
  pub nodes : Nodes
  pub made : multi_applied first_ops map_of.empty ≡ Ok nodes
  pub has : HasNodes nodes_name image nodes
  pub root : HoldsCells root_file first_cells image
  pub others : HasNoOthers image
