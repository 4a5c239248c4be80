use Rattle.std.proofs.Common.{◌∙◌, ◌++◌, Some, sym, ap}
use Rattle.store_meaning.specs.Content.{log_cells}
use Rattle.state_reader.specs.Still.{ground_of}
use Rattle.state_reader.proofs.ToldMore.{told_more, untold}
use Rattle.state_reader.proofs.tablet_cells.cells_of_logs.Goals as goal

pub loop-log-preserved : goal.loop-log-preserved
loop-log-preserved c =
    told_more (log_cells (ground_of c.args.still.now) c.args.tablet.now) c.args.logs.now c.loop-log.log-index c.log-item.result c.loop-log.all.items c.in-Some.cells c.loop-log-test.true c.log-item.is c.loop-log.invariant (sym c.in_ok-cells.ensures ∙ c.in-Some.is)
    ∙ ap Some (sym (c.in_ok-append.ensures.items ∙ ap (λ l. c.loop-log.all.items ++ l) c.into_vec.ensures))

pub returns-in_default : goal.returns-in_default
returns-in_default c = sym (untold (log_cells (ground_of c.args.still.now) c.args.tablet.now) c.args.logs.now c.log-item.result (c.loop-log.log-index, c.loop-log-test.true, sym c.log-item.is) (sym c.in_ok-cells.ensures ∙ c.in_default.is))
