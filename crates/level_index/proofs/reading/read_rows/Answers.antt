use Rattle.std.proofs.Common.{◌∙◌, ap, subst, sym, rules}
use Rattle.std.specs.Prelude.{IfErr}
use Rattle.std.proofs.lemmas.Result.{IfErr-weaker}
use Rattle.state_reader.proofs.BadRows.{IsCauseAt}
use Rattle.level_index.specs.Entries.{LevelMap}
use Rattle.level_index.proofs.ReadLemmas.{IsReading}
use Rattle.level_index.proofs.StepLemmas.{begun_new, step_order, step_cause, step_none, step_entry}
use Rattle.level_index.proofs.reading.read_rows.Goals as goal

pub rows-init : goal.rows-init
rows-init c = begun_new c.args.kind c.args.pairs.now c.new-index.result c.new-index.ensures.value

pub entry_in-requires : goal.entry_in-requires
entry_in-requires c =
    step_order c.args.kind c.args.pairs.now c.requires c.rows.rest.now c.rows.index.entries c.rows.invariant.1 c.in-Some.first.now c.in-Some.ensures.value c.first_row.result.0.now c.first_row.result.1.now c.first_row.ensures

pub returns-in_err-entry-clause-err : goal.returns-in_err-entry-clause-err
returns-in_err-entry-clause-err c =
    let row = c.in-Some.first.now.key.row in
    let cause : IsCauseAt c.args.kind c.first_row.result.0.now row c.in_err-entry.field-0.0 = record { why = c.in_err-entry.ensures.err } in
    let known : IfErr c.from_residual.result (IsCauseAt c.args.kind c.first_row.result.0.now row) = search rules in
    IfErr-weaker c.from_residual.result _ _ (λ fault is.
    step_cause c.args.kind c.args.pairs.now c.requires c.rows.rest.now c.rows.index.entries c.rows.invariant.1 c.in-Some.first.now c.in-Some.ensures.value c.first_row.result.0.now c.first_row.result.1.now c.first_row.ensures fault is.why) known

pub rows-preserved-in_ok-add : goal.rows-preserved-in_ok-add
rows-preserved-in_ok-add c =
    let made = c.in_ok-add.ensures in
    let found = rw c.in-Some-2.is at c.in_ok-entry.ensures.ok in (
      ap (λ (m : LevelMap). m.kind) made ∙ c.rows.invariant.0,
      subst (λ (m : LevelMap). IsReading c.args.kind c.args.pairs.now c.first_row.result.1.now m.entries) (sym made)
          (step_entry c.args.kind c.args.pairs.now c.requires c.rows.rest.now c.rows.index.entries c.rows.invariant.1 c.in-Some.first.now c.in-Some.ensures.value c.first_row.result.0.now c.first_row.result.1.now c.first_row.ensures c.in-Some-2.entry found),
    )

pub rows-preserved : goal.rows-preserved
rows-preserved c = (
  c.rows.invariant.0,
  step_none c.args.kind c.args.pairs.now c.requires c.rows.rest.now c.rows.index.entries c.rows.invariant.1 c.in-Some.first.now c.in-Some.ensures.value c.first_row.result.0.now c.first_row.result.1.now c.first_row.ensures
      (rw c.in_default-2.is at c.in_ok-entry.ensures.ok),
)
