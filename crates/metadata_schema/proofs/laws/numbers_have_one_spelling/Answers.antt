use Rattle.std.proofs.lemmas.Fmt.{decimal_injective}
use Rattle.metadata_schema.proofs.LawsLemmas.{no_zero}
use Rattle.metadata_schema.proofs.laws.numbers_have_one_spelling.Goals as goal

pub returns : goal.returns
returns c = record { one_number = decimal_injective; no_zero_in_front = no_zero }
