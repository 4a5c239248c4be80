use Rattle.plain_model.proofs.LawsLemmas.{refused}
use Rattle.plain_model.proofs.laws.refused_is_in_no_history.Goals as goal

pub returns : goal.returns
returns c = refused
