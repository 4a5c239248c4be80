use Rattle.std.proofs.Common.{All}
use Rattle.data_files.specs.Cells.{FitsCell}
use Rattle.accmgr.proofs.data_file_tests.many.Given as goal

abbrev pub invariant-loop-number : goal.invariant-loop-number
invariant-loop-number l = All FitsCell l.cells.items
