use Rattle.plain_model.proofs.RangesLemmas.{clones_apart}
use Rattle.plain_model.proofs.laws.clones_stand_apart.Goals as goal

pub returns : goal.returns
returns c = clones_apart
