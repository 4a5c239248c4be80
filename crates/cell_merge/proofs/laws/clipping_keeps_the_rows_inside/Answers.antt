use Rattle.cell_merge.proofs.LatestLemmas.{latest-clipped}
use Rattle.cell_merge.proofs.MergedLemmas.{latest-clipped_outside, newest-clipped}
use Rattle.cell_merge.proofs.laws.clipping_keeps_the_rows_inside.Goals as goal

pub returns : goal.returns
returns c = record { inside = latest-clipped; outside = latest-clipped_outside; newest = newest-clipped }
