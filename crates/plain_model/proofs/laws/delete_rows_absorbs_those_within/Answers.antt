use Rattle.plain_model.proofs.RangesLemmas.{delete_rows_absorbs}
use Rattle.plain_model.proofs.laws.delete_rows_absorbs_those_within.Goals as goal

pub returns : goal.returns
returns c = delete_rows_absorbs
