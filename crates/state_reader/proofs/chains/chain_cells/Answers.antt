use Rattle.std.proofs.Common.{◌≡◌, ◌++◌, [], ◌∷◌, Some, ◌∙◌, sym, ap, subst, rules}
use Rattle.std.specs.Prelude.{IfErr}
use Rattle.std.proofs.lemmas.Result.{IfErr-weaker}
use Rattle.level_rows.specs.Chain.{rows_of}
use Rattle.store_meaning.specs.Content.{tablet_content}
use Rattle.state_reader.specs.Still.{ground_of}
use Rattle.state_reader.proofs.LackLemmas.{cause_in, IsChainCause}
use Rattle.state_reader.proofs.ToldMore.{told_more}
use Rattle.state_reader.proofs.chains.chain_cells.Goals as goal

pub returns-in_err-cells-clause-cause : goal.returns-in_err-cells-clause-cause
returns-in_err-cells-clause-cause c =
    let ground = ground_of c.args.still.now in
    let tablet = c.tablet-item.result in
    let cause : IsChainCause ground (tablet ∷ []) c.in_err-cells.field-0.0 = record { why = c.in_err-cells.ensures.cause } in
    let known : IfErr c.from_residual.result (IsChainCause ground (tablet ∷ [])) = search rules in
    IfErr-weaker c.from_residual.result _ _ (λ fault is. cause_in ground c.args.chain.now tablet (c.loop-tablet.tablet-index, c.loop-tablet-test.true, sym c.tablet-item.is) fault is.why) known

pub loop-tablet-preserved : goal.loop-tablet-preserved
loop-tablet-preserved c =
    let ground = ground_of c.args.still.now in
    let records = c.args.records.now in
    let tablet = c.tablet-item.result in
    let table = c.requires.each tablet (c.loop-tablet.tablet-index, c.loop-tablet-test.true, sym c.tablet-item.is) in
    let told = subst (λ id. tablet_content ground (rows_of id records) tablet ≡ Some c.in_ok-cells.cells) table c.in_ok-cells.ensures.ok in
    told_more (tablet_content ground (rows_of c.args.table.now records)) c.args.chain.now c.loop-tablet.tablet-index tablet c.loop-tablet.all.items c.in_ok-cells.cells c.loop-tablet-test.true c.tablet-item.is c.loop-tablet.invariant told
    ∙ ap Some (sym (c.in_ok-append.ensures.items ∙ ap (λ l. c.loop-tablet.all.items ++ l) c.into_vec.ensures))
