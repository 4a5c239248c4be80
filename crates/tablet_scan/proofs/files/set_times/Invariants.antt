use Rattle.std.proofs.Common.{◌≡◌, ◌++◌, Some, map, take, drop}
use Rattle.store_meaning.specs.Content.{timed}
use Rattle.tablet_scan.proofs.files.set_times.Given as goal

abbrev pub invariant-loop-cell : goal.invariant-loop-cell
invariant-loop-cell l = l.cells ≡ map (timed (Some l.time)) (take l.cell-index l.initial.cells) ++ drop l.cell-index l.initial.cells
