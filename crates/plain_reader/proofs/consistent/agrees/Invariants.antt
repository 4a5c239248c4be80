use Rattle.std.proofs.Common.{take}
use Rattle.plain_reader.specs.Consistent.{AgreesWith}
use Rattle.plain_reader.proofs.consistent.agrees.Given as goal

abbrev pub invariant-loop-other : goal.invariant-loop-other
invariant-loop-other l = AgreesWith (take l.other-index l.cells) l.cell
