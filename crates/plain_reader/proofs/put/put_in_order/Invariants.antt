use Rattle.std.proofs.Common.{take}
use Rattle.plain_reader.specs.Puts.{put_each, PutsOver}
use Rattle.plain_reader.proofs.put.put_in_order.Given as goal

abbrev pub invariant-loop-cell : goal.invariant-loop-cell
invariant-loop-cell l = PutsOver l.id (put_each (take l.cell-index l.cells)) l.initial.state l.state
