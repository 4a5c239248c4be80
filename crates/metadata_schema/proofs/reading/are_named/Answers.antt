use Rattle.std.proofs.Common.{List, ℕ, take, sym, subst}
use Rattle.std.proofs.lemmas.List.{take_all}
use Rattle.std.proofs.lemmas.List.Elements.{All-more, All-same}
use Rattle.metadata_schema.specs.declared.mutation.Update.{Update}
use Rattle.metadata_schema.specs.Kinds.{IsColumn}
use Rattle.metadata_schema.proofs.reading.are_named.Goals as goal

abbrev IsNamed : Update → Type 0
IsNamed update = IsColumn update.family update.qualifier

pub loop-update-preserved : goal.loop-update-preserved
loop-update-preserved c =
    let u = c.update-item.result in
    let here : IsNamed u = subst (λ (f : List ℕ). IsColumn f u.qualifier) c.as_bytes.ensures (subst (λ (q : List ℕ). IsColumn c.as_bytes.result.now q) c.as_bytes-in-loop-update.ensures c.if-not-is_column.ensures) in
    All-more IsNamed c.args.updates.now c.loop-update.update-index u c.loop-update-test.true c.loop-update.invariant (subst IsNamed c.update-item.is here)

pub returns : goal.returns
returns c =
    All-same IsNamed c.args.updates.now (take c.loop-update.update-index c.args.updates.now) (sym (take_all c.loop-update.update-index c.args.updates.now c.loop-update-test.false)) c.loop-update.invariant
