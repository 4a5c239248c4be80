-- What a scan of a tablet gives.
use Rattle.std.specs.Prelude.{◌≡◌, List, ◌++◌, Option, Some}
use Rattle.host_model.specs.Picture.{Image}
use Rattle.row_keys.specs.declared.key.Key.{Key}
use Rattle.metadata_schema.specs.declared.tablet.TabletRecord.{TabletRecord}
use Rattle.cell_merge.specs.declared.cell.Cell.{Cell}
use Rattle.cell_merge.specs.declared.cell.Pair.{Pair}
use Rattle.cell_merge.specs.Newest.{Bytes, latest, clipped, IsNewest}
use Rattle.tablet_mem.specs.Memory.{Memory}
use Rattle.store_meaning.specs.Ground.{Ground}
use Rattle.store_meaning.specs.Flushes.{memory_of}
use Rattle.tablet_scan.specs.Files.{HoldAll}

-- the newest pairs of the rows above `from`, up to `to` and at it
abbrev pub AreNewestWithin : Option Bytes → Option Bytes → List Cell → List Pair → Type 0
AreNewestWithin from to cells pairs = IsNewest (clipped from to cells) pairs

-- The cells of the tablet's rows above `low`: those of its files and, behind them, those of its memory.
pub record AreTabletCells (image : Image) (low : Option Bytes) (tablet : TabletRecord) (memory : Memory) (cells : List Cell) : Type 0 where
  pub stored : List Cell
  pub files : HoldAll image tablet.files stored
  pub are : cells ≡ clipped low tablet.end (stored ++ memory.cells)

-- each key has the same latest cell
abbrev pub HaveSameLatest : List Cell → List Cell → Type 0
HaveSameLatest cells other = (key : Key) → latest cells key ≡ latest other key

-- The newest pairs within (from, to] of the tablet's rows above `low`, by the cells of its files and, behind them, of its memory.
pub record IsScan (image : Image) (low : Option Bytes) (tablet : TabletRecord) (memory : Memory) (from to : Option Bytes) (pairs : List Pair) : Type 0 where
  pub stored : List Cell
  pub files : HoldAll image tablet.files stored
  pub newest : AreNewestWithin from to (clipped low tablet.end (stored ++ memory.cells)) pairs

-- The memory has the latest cell of each key that the tablet's logs have: of its table's mutations past its bar, within its extent.
pub record IsMemoryOf (known : Ground) (low : Option Bytes) (tablet : TabletRecord) (memory : Memory) : Type 0 where
  pub logged : List Cell
  pub told : memory_of known low tablet ≡ Some logged
  pub latest_at : (key : Key) → latest memory.cells key ≡ latest logged key
