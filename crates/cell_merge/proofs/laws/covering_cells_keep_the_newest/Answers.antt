use Rattle.cell_merge.proofs.LatestLemmas.{newest-covers, AreConsistent-covers}
use Rattle.cell_merge.proofs.laws.covering_cells_keep_the_newest.Goals as goal

pub returns : goal.returns
returns c = record { newest = newest-covers; consistent = AreConsistent-covers }
