use Rattle.std.proofs.Common.{take}
use Rattle.state_reader.specs.Still.{ground_of}
use Rattle.plain_state.specs.Catalogs.{AreMarksTold}
use Rattle.plain_state.proofs.marked.check_marks.Given as goal

abbrev pub invariant-loop-table : goal.invariant-loop-table
invariant-loop-table l = AreMarksTold (ground_of l.still) (take l.table-index l.tables)
