use Rattle.plain_model.proofs.RangesLemmas.{merge_absorbs}
use Rattle.plain_model.proofs.laws.merge_absorbs_merges_within.Goals as goal

pub returns : goal.returns
returns c = merge_absorbs
