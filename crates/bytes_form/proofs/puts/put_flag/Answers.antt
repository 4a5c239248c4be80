use Rattle.std.proofs.Common.{◌++◌, ◌∷◌, [], ap, ◌∙◌, List, ℕ}
use Rattle.bytes_form.proofs.FieldsLemmas.{flag_field-byte}
use Rattle.bytes_form.proofs.puts.put_flag.Goals as goal

pub returns-clause-ok : goal.returns-clause-ok
returns-clause-ok c =
    c.in_ok-push.ensures.items
    ∙ ap (λ (n : ℕ). c.args.out.now.items ++ n ∷ []) c.from.ensures
    ∙ ap (λ (l : List ℕ). c.args.out.now.items ++ l) (flag_field-byte c.args.value)
