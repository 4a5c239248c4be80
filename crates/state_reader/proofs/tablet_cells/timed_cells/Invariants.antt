use Rattle.std.proofs.Common.{◌≡◌, map, take}
use Rattle.store_meaning.specs.Content.{timed}
use Rattle.state_reader.proofs.tablet_cells.timed_cells.Given as goal

abbrev pub invariant-loop-cell : goal.invariant-loop-cell
invariant-loop-cell l = l.cells.items ≡ map (timed l.time) (take l.cell-index l.stored)
