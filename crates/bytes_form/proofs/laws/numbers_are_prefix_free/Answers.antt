use Rattle.bytes_form.proofs.FieldsLemmas.{IsPrefixFree-number}
use Rattle.bytes_form.proofs.laws.numbers_are_prefix_free.Goals as goal

pub returns : goal.returns
returns c = IsPrefixFree-number
