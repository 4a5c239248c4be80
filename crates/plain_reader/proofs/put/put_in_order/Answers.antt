use Rattle.std.proofs.Common.{List, [], take, refl, subst}
use Rattle.std.proofs.lemmas.List.{take_all}
use Rattle.cell_merge.specs.declared.cell.Cell.{Cell}
use Rattle.plain_reader.specs.Puts.{put_each, PutsOver}
use Rattle.plain_reader.proofs.PutLemmas.{puts_begun, puts_there, puts_cell}
use Rattle.plain_reader.proofs.put.put_in_order.Goals as goal

pub loop-cell-init : goal.loop-cell-init
loop-cell-init c = puts_begun c.args.id.now (put_each []) c.args.state.now (λ key below. refl) c.requires

pub put_cell-requires : goal.put_cell-requires
put_cell-requires c = puts_there c.args.id.now (put_each (take c.loop-cell.cell-index c.args.cells.now)) c.args.state.now c.loop-cell.state c.loop-cell.invariant

pub loop-cell-preserved : goal.loop-cell-preserved
loop-cell-preserved c =
    puts_cell c.args.id.now c.args.cells.now c.loop-cell.cell-index c.cell-item.result c.args.state.now c.loop-cell.state c.put_cell.new.state c.loop-cell-test.true c.cell-item.is c.loop-cell.invariant c.in_ok-put_cell.ensures

pub returns : goal.returns
returns c = subst (λ (l : List Cell). PutsOver c.args.id.now (put_each l) c.args.state.now c.loop-cell.state) (take_all c.loop-cell.cell-index c.args.cells.now c.loop-cell-test.false) c.loop-cell.invariant
