use Rattle.bytes_form.proofs.FieldsLemmas.{IsPrefixFree-counted}
use Rattle.bytes_form.proofs.laws.counted_bytes_are_prefix_free.Goals as goal

pub returns : goal.returns
returns c = IsPrefixFree-counted
