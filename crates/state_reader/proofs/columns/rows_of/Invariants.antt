use Rattle.std.proofs.Common.{take}
use Rattle.state_reader.specs.Columns.{AreRowsOf}
use Rattle.state_reader.proofs.columns.rows_of.Given as goal

abbrev pub invariant-loop-pair : goal.invariant-loop-pair
invariant-loop-pair l = AreRowsOf (take l.pair-index l.pairs) l.rows.items
