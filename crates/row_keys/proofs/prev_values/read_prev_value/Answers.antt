use Rattle.std.proofs.Common.{rules, ◌≡◌, ◌∙◌, sym, None, Some, length, arith, IsErrOf}
use Rattle.std.proofs.lemmas.Bool.Decides.{nat_tests}
use Rattle.row_keys.specs.declared.row.KeyForm.TheVariants.{BadPrev}
use Rattle.row_keys.proofs.PrevLemmas.{is_none, is_some, is_not_bad}
use Rattle.row_keys.proofs.prev_values.read_prev_value.Goals as goal

pub returns-in-0-clause-bad_prev : goal.returns-in-0-clause-bad_prev
returns-in-0-clause-bad_prev c =
    let none : length c.in-Some.row.now ≡ 0 = grind (arith, nat_tests) in
    is_not_bad None c.args.value.now (λ e. cc) (is_none _ c.in-Some.row.now _ (sym c.as_bytes.ensures ∙ c.in-Some.ensures.cases.0) c.in-0.is none)

pub returns-in_ok-new-in-1-clause-bad_prev : goal.returns-in_ok-new-in-1-clause-bad_prev
returns-in_ok-new-in-1-clause-bad_prev c =
    is_not_bad (Some c.in-Some.row.now) c.args.value.now (λ e. cc)
    (is_some _ c.in-Some.row.now _ (sym c.as_bytes.ensures ∙ c.in-Some.ensures.cases.0) c.in-1.is c.if-row-le-MAX_ROW.true)

pub returns-in_err-new-in-1-clause-bad_prev : goal.returns-in_err-new-in-1-clause-bad_prev
returns-in_err-new-in-1-clause-bad_prev c =
    let never : IsErrOf c.from_residual.result BadPrev → ⊥ = search rules in
    is_not_bad (Some c.in-Some.row.now) c.args.value.now never
    (is_some _ c.in-Some.row.now _ (sym c.as_bytes.ensures ∙ c.in-Some.ensures.cases.0) c.in-1.is c.if-row-le-MAX_ROW.true)
