use Rattle.store_meaning.proofs.ChangeLemmas.{told_less}
use Rattle.store_meaning.proofs.laws.a_ground_may_tell_less.Goals as goal

pub returns : goal.returns
returns c = told_less
