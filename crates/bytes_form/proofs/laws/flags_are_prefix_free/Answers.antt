use Rattle.bytes_form.proofs.FieldsLemmas.{IsPrefixFree-flag}
use Rattle.bytes_form.proofs.laws.flags_are_prefix_free.Goals as goal

pub returns : goal.returns
returns c = IsPrefixFree-flag
