use Rattle.cell_merge.proofs.LatestLemmas.{latest_matches}
use Rattle.cell_merge.proofs.laws.the_latest_cell_has_the_greatest_time.Goals as goal

pub returns : goal.returns
returns c = latest_matches
