use Rattle.level_rows.proofs.OneListLemmas.{one_left_over}
use Rattle.level_rows.proofs.laws.left_over_records_are_one_list.Goals as goal

pub returns : goal.returns
returns c = one_left_over
