use Rattle.cell_merge.proofs.MergedLemmas.{one_newest}
use Rattle.cell_merge.proofs.laws.newest_is_one_list.Goals as goal

pub returns : goal.returns
returns c = one_newest
