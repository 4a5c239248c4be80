use Rattle.std.proofs.Common.{◌∙◌, refl}
use Rattle.data_files.proofs.OrderLemmas.{follows_last, follows_none, partial_key}
use Rattle.data_files.proofs.order.follows.Goals as goal

pub returns-in-Some : goal.returns-in-Some
returns-in-Some c = follows_last c.args.cells.now c.in-Some.last.now c.args.cell.now c.lt.result c.requires c.in-Some.ensures.value (c.lt.ensures ∙ partial_key c.in-Some.last.now.key c.args.cell.now.key)

pub returns-in-None : goal.returns-in-None
returns-in-None c = follows_none c.args.cells.now c.args.cell.now c.in-None.ensures.value _ refl
