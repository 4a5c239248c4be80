use Rattle.cell_merge.proofs.LatestLemmas.{newest-gains, AreConsistent-gains}
use Rattle.cell_merge.proofs.laws.later_cells_count_over_earlier_ones.Goals as goal

pub returns : goal.returns
returns c = record { newest = newest-gains; consistent = AreConsistent-gains }
