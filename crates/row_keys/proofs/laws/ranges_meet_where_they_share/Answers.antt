use Rattle.row_keys.proofs.RangesLemmas.{common_is_shared}
use Rattle.row_keys.proofs.laws.ranges_meet_where_they_share.Goals as goal

pub returns : goal.returns
returns c = common_is_shared
