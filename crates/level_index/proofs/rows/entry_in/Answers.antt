use Rattle.std.proofs.Common.{rules}
use Rattle.std.specs.Prelude.{IfErr}
use Rattle.std.proofs.lemmas.Result.{IfErr-weaker}
use Rattle.state_reader.proofs.BadRows.{IsCauseOfBoth}
use Rattle.level_index.proofs.rows.entry_in.Goals as goal

pub returns-in_err-path-clause-err : goal.returns-in_err-path-clause-err
returns-in_err-path-clause-err c =
    let cause : IsCauseOfBoth c.args.pairs.now c.args.row.now c.in_err-path.field-0.0 = record { why = c.in_err-path.ensures.err } in
    let known : IfErr c.from_residual-in_err-path.result (IsCauseOfBoth c.args.pairs.now c.args.row.now) = search rules in
    IfErr-weaker c.from_residual-in_err-path.result _ _ (λ fault is cells newest has. is.why c.args.kind cells newest has) known

pub returns-in_err-flag-clause-err : goal.returns-in_err-flag-clause-err
returns-in_err-flag-clause-err c =
    let cause : IsCauseOfBoth c.args.pairs.now c.args.row.now c.in_err-flag.field-0.0 = record { why = c.in_err-flag.ensures.err } in
    let known : IfErr c.from_residual-in_err-flag.result (IsCauseOfBoth c.args.pairs.now c.args.row.now) = search rules in
    IfErr-weaker c.from_residual-in_err-flag.result _ _ (λ fault is cells newest has. is.why c.args.kind cells newest has) known
