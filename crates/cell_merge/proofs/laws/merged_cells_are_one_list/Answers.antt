use Rattle.cell_merge.proofs.MergedLemmas.{one_merged}
use Rattle.cell_merge.proofs.laws.merged_cells_are_one_list.Goals as goal

pub returns : goal.returns
returns c = one_merged
