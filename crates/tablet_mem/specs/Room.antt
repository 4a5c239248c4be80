-- Cells for which there is room, so that they can be put without memory.
use Rattle.std.specs.Prelude.{◌≡◌, ◌+◌, ◌≤◌, List, length, map, vec_capacity}
use Rattle.std.specs.List.{All}
use Rattle.std.specs.BTreeMap.{ContainsKey}
use Rattle.cell_merge.specs.declared.cell.Cell.{Cell}
use Rattle.tablet_mem.specs.declared.ready.Ready.{Ready}
use Rattle.tablet_mem.specs.declared.unflushed.Unflushed.{Unflushed}
use Rattle.tablet_mem.specs.Index.{Places, spot_of, spot_cmp}

-- a cell with its spot
abbrev pub ready_of : Cell → Ready
ready_of cell = record { spot = spot_of cell.key; cell = cell }

-- the spot is that of the cell's key, and stands in the index
pub record IsReady (places : Places) (one : Ready) : Type 0 where
  pub own : one.spot ≡ spot_of one.cell.key
  pub placed : ContainsKey spot_cmp places one.spot

-- there is room for these among the cells and in the index
pub record HasRoom (unflushed : Unflushed) (ready : List Ready) : Type 0 where
  pub room : length unflushed.cells.items + length ready ≤ vec_capacity unflushed.cells
  pub each : All (IsReady unflushed.places) ready

-- the cells alone
abbrev pub cells_of : List Ready → List Cell
cells_of ready = map (λ one. one.cell) ready
