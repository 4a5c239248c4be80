use Rattle.std.proofs.Common.{false, true, refl, ap, ◌∷◌, List, ℕ, get_or, ◌∙◌, arith}
use Rattle.bytes_form.specs.Fields.{flag_field}
use Rattle.bytes_form.proofs.FieldsLemmas.{takes_flag, takes_no_flag, takes_no_flag_yet}
use Rattle.bytes_form.proofs.takes.take_flag.Goals as goal

pub returns-in_default-clause-err : goal.returns-in_default-clause-err
returns-in_default-clause-err c = takes_no_flag_yet c.args.bytes.now (omega (arith, c.in_default.ensures.cases))

pub returns-in-0-clause-ok : goal.returns-in-0-clause-ok
unfolding flag_field
returns-in-0-clause-ok c =
    takes_flag false 0 c.args.bytes.now _ (c.in-Some.ensures.cases.0 ∙ ap (λ (n : ℕ). n ∷ c.in-Some.rest.now) c.in-0.is) refl

pub returns-in-1-clause-ok : goal.returns-in-1-clause-ok
unfolding flag_field
returns-in-1-clause-ok c =
    takes_flag true 1 c.args.bytes.now _ (c.in-Some.ensures.cases.0 ∙ ap (λ (n : ℕ). n ∷ c.in-Some.rest.now) c.in-1.is) refl

pub returns-in_default-byte-clause-err : goal.returns-in_default-byte-clause-err
returns-in_default-byte-clause-err c =
    let first = ap (λ (l : List ℕ). get_or l 0 0) c.in-Some.ensures.cases.0 in
    takes_no_flag c.args.bytes.now (omega (arith, first))
