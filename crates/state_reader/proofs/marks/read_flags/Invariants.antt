use Rattle.std.proofs.Common.{take}
use Rattle.state_reader.specs.RowReads.{AreFlagsIn}
use Rattle.state_reader.proofs.marks.read_flags.Given as goal

abbrev pub invariant-loop-row : goal.invariant-loop-row
invariant-loop-row l = AreFlagsIn l.pairs (take l.row-index l.rows) l.flags.items
