-- The tablets of a table, their memories, and the cells that they have.
use Rattle.std.specs.Prelude.{◌≡◌, ℕ, List, [], ◌∷◌, ◌++◌, Option, Some, Contains}
use Rattle.host_model.specs.Picture.{Image}
use Rattle.row_keys.specs.MetadataRow.{metadata_row}
use Rattle.metadata_schema.specs.declared.tablet.TabletRecord.{TabletRecord}
use Rattle.cell_merge.specs.declared.cell.Cell.{Cell}
use Rattle.level_rows.specs.Chain.{Rows, effective_prev}
use Rattle.tablet_mem.specs.Memory.{Memory}
use Rattle.store_meaning.specs.Ground.{Ground}
use Rattle.tablet_scan.specs.Scans.{AreTabletCells, IsMemoryOf}

-- memories by metadata row
abbrev pub MemoryAt : Type 0
MemoryAt = List ℕ → Option Memory

-- the tablet's metadata row
abbrev pub row_of : TabletRecord → List ℕ
row_of tablet = metadata_row tablet.table tablet.end

-- ---- memories

-- the tablet has a memory
pub record IsHosted (hosted : MemoryAt) (tablet : TabletRecord) : Type 0 where
  pub memory : Memory
  pub there : hosted (row_of tablet) ≡ Some memory

-- each of the tablets has one
pub record AreHosted (hosted : MemoryAt) (chain : List TabletRecord) : Type 0 where
  pub each : (tablet : TabletRecord) → Contains chain tablet → IsHosted hosted tablet

-- the tablet has a memory, and that is its memory among these rows
pub record HasMemory (known : Ground) (rows : Rows) (hosted : MemoryAt) (tablet : TabletRecord) : Type 0 where
  pub memory : Memory
  pub there : hosted (row_of tablet) ≡ Some memory
  pub is : IsMemoryOf known (effective_prev rows tablet) tablet memory

-- each of the tablets has its memory
pub record HaveMemories (known : Ground) (rows : Rows) (hosted : MemoryAt) (chain : List TabletRecord) : Type 0 where
  pub each : (tablet : TabletRecord) → Contains chain tablet → HasMemory known rows hosted tablet

-- ---- cells

-- the cells of a tablet among these rows: those of its files and, behind them, those of its memory
pub record HoldsTablet (image : Image) (rows : Rows) (hosted : MemoryAt) (tablet : TabletRecord) (cells : List Cell) : Type 0 where
  pub memory : Memory
  pub there : hosted (row_of tablet) ≡ Some memory
  pub are : AreTabletCells image (effective_prev rows tablet) tablet memory cells

-- the cells of the tablets, one tablet's behind the other's
abbrev pub HoldTablets : Image → Rows → MemoryAt → List TabletRecord → List Cell → Type 0
HoldTablets image rows hosted [] cells = cells ≡ []
HoldTablets image rows hosted (tablet ∷ more) cells =
    (front : List Cell) × (back : List Cell) × HoldsTablet image rows hosted tablet front × HoldTablets image rows hosted more back × (cells ≡ front ++ back)
