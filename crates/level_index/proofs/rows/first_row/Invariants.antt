use Rattle.std.proofs.Common.{take}
use Rattle.level_index.proofs.RowLemmas.{AreOfRow}
use Rattle.level_index.proofs.rows.first_row.Given as goal

abbrev pub invariant-loop-at : goal.invariant-loop-at
invariant-loop-at l = AreOfRow l.row (take l.at l.pairs)
