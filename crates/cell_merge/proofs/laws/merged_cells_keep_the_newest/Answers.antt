use Rattle.cell_merge.proofs.MergedLemmas.{covers-kept, covers-removed, latest-kept, newest-removed}
use Rattle.cell_merge.proofs.laws.merged_cells_keep_the_newest.Goals as goal

pub returns : goal.returns
returns c = record { kept = covers-kept; removed = covers-removed; latest_kept = latest-kept; newest_removed = newest-removed }
