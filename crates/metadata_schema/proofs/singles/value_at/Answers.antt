use Rattle.std.proofs.Common.{◌∙◌, sym}
use Rattle.metadata_schema.proofs.ReadingLemmas.{found_here, not_found}
use Rattle.metadata_schema.proofs.singles.value_at.Goals as goal

pub returns-then-is_named : goal.returns-then-is_named
returns-then-is_named c =
    c.value_of.ensures
    ∙ sym (found_here c.args.updates.now c.loop-update.update-index c.update-item.result c.args.family.now c.args.qualifier.now c.loop-update-test.true c.update-item.is c.loop-update.invariant (sym c.if-is_named.ensures))

pub loop-update-preserved : goal.loop-update-preserved
loop-update-preserved c =
    not_found c.args.updates.now c.loop-update.update-index c.update-item.result c.args.family.now c.args.qualifier.now c.loop-update-test.true c.update-item.is c.loop-update.invariant (sym c.if-is_named.ensures)
