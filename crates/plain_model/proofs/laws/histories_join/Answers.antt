use Rattle.plain_model.proofs.LawsLemmas.{histories_join}
use Rattle.plain_model.proofs.laws.histories_join.Goals as goal

pub returns : goal.returns
returns c = histories_join
