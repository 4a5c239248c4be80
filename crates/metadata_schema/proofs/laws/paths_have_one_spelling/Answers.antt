use Rattle.metadata_schema.proofs.LawsLemmas.{same_parts}
use Rattle.metadata_schema.proofs.laws.paths_have_one_spelling.Goals as goal

pub returns : goal.returns
returns c = same_parts
