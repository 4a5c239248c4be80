use Rattle.std.proofs.Common.{◌≡◌, take}
use Rattle.data_files.specs.Files.{greatest_time}
use Rattle.data_files.proofs.order.greatest_time.Given as goal

abbrev pub invariant-loop-cell : goal.invariant-loop-cell
invariant-loop-cell l = l.greatest ≡ greatest_time (take l.cell-index l.cells)
