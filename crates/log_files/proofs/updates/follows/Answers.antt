use Rattle.std.proofs.Common.{◌∙◌, ap, refl}
use Rattle.std.specs.Ordering.{is_lt}
use Rattle.log_files.proofs.RisingLemmas.{follows_last, follows_none}
use Rattle.log_files.proofs.updates.follows.Goals as goal

pub returns-in-Some : goal.returns-in-Some
returns-in-Some c = follows_last c.args.updates.now c.in-Some.last.now c.args.update.now c.is_lt.result c.requires c.in-Some.ensures.value (c.is_lt.ensures ∙ ap is_lt c.update_cmp.ensures)

pub returns-in-None : goal.returns-in-None
returns-in-None c = follows_none c.args.updates.now c.args.update.now c.in-None.ensures.value _ refl
