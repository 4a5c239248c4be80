use Rattle.level_index.proofs.LawLemmas.{made_once}
use Rattle.level_index.proofs.laws.a_row_is_made_once.Goals as goal

pub returns : goal.returns
returns c = made_once
