use Rattle.std.proofs.Common.{◌++◌, sym, ap, ◌∙◌, List, ℕ, arith}
use Rattle.bytes_form.proofs.FieldsLemmas.{number_field-byte}
use Rattle.bytes_form.proofs.puts.put_u8.Goals as goal

pub returns-clause-ok : goal.returns-clause-ok
returns-clause-ok c =
    c.in_ok-push.ensures.items ∙ ap (λ (l : List ℕ). c.args.out.now.items ++ l) (sym (number_field-byte c.args.value (omega (arith, c.ranges.value))))
