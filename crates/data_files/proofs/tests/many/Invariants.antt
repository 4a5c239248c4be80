use Rattle.data_files.specs.Cells.{AreFileCells}
use Rattle.data_files.proofs.tests.many.Given as goal

abbrev pub invariant-loop-number : goal.invariant-loop-number
invariant-loop-number l = AreFileCells l.cells.items
