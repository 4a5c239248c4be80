use Rattle.std.proofs.Common.{take, sym, subst}
use Rattle.std.proofs.lemmas.List.{take_all}
use Rattle.state_reader.proofs.RowLists.{one_more}
use Rattle.plain_reader.proofs.ConsistentLemmas.{AgreeAll, agree_more, consistent_of}
use Rattle.plain_reader.proofs.consistent.are_consistent.Goals as goal

pub loop-cell-preserved : goal.loop-cell-preserved
loop-cell-preserved c =
    subst (AgreeAll c.args.cells.now) (sym (one_more c.args.cells.now c.loop-cell.cell-index c.cell-item.result c.loop-cell-test.true c.cell-item.is))
    (agree_more c.args.cells.now (take c.loop-cell.cell-index c.args.cells.now) c.cell-item.result c.loop-cell.invariant c.if-not-agrees.ensures)

pub returns : goal.returns
returns c = consistent_of c.args.cells.now (subst (AgreeAll c.args.cells.now) (take_all c.loop-cell.cell-index c.args.cells.now c.loop-cell-test.false) c.loop-cell.invariant)
