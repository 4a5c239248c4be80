use Rattle.plain_model.proofs.ApartLemmas.{apart_commute}
use Rattle.plain_model.proofs.laws.operations_apart_commute.Goals as goal

pub returns : goal.returns
returns c = apart_commute
