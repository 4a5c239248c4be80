use Rattle.std.proofs.Common.{take, sym, subst, rules}
use Rattle.std.specs.Prelude.{IsSome}
use Rattle.std.proofs.lemmas.List.{take_all}
use Rattle.std.proofs.lemmas.List.Elements.{All-more, All-same}
use Rattle.metadata_schema.specs.declared.mutation.Update.{Update}
use Rattle.state_reader.proofs.root.are_written.Goals as goal

abbrev IsWritten : Update → Type 0
IsWritten update = IsSome update.value

pub loop-update-preserved : goal.loop-update-preserved
loop-update-preserved c =
    let u = c.update-item.result in
    let here : IsWritten u = search rules in
    All-more IsWritten c.args.updates.now c.loop-update.update-index u c.loop-update-test.true c.loop-update.invariant (subst IsWritten c.update-item.is here)

pub returns : goal.returns
returns c =
    All-same IsWritten c.args.updates.now (take c.loop-update.update-index c.args.updates.now) (sym (take_all c.loop-update.update-index c.args.updates.now c.loop-update-test.false)) c.loop-update.invariant
