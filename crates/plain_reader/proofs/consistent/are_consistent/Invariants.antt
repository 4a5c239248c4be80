use Rattle.std.proofs.Common.{take}
use Rattle.plain_reader.proofs.ConsistentLemmas.{AgreeAll}
use Rattle.plain_reader.proofs.consistent.are_consistent.Given as goal

abbrev pub invariant-loop-cell : goal.invariant-loop-cell
invariant-loop-cell l = AgreeAll l.cells (take l.cell-index l.cells)
