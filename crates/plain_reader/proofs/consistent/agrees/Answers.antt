use Rattle.std.proofs.Common.{take, sym, subst}
use Rattle.state_reader.proofs.RowLists.{one_more}
use Rattle.plain_reader.specs.Consistent.{AgreesWith}
use Rattle.plain_reader.proofs.ConsistentLemmas.{agrees_more, clashes}
use Rattle.plain_reader.proofs.consistent.agrees.Goals as goal

pub returns-then-clash : goal.returns-then-clash
returns-then-clash c = clashes c.args.cells.now c.args.cell.now c.other-item.result (c.loop-other.other-index, c.loop-other-test.true, sym c.other-item.is) c.if-clash.ensures

pub loop-other-preserved : goal.loop-other-preserved
loop-other-preserved c =
    subst (λ l. AgreesWith l c.args.cell.now) (sym (one_more c.args.cells.now c.loop-other.other-index c.other-item.result c.loop-other-test.true c.other-item.is))
    (agrees_more (take c.loop-other.other-index c.args.cells.now) c.args.cell.now c.other-item.result c.loop-other.invariant c.if-clash.ensures)
