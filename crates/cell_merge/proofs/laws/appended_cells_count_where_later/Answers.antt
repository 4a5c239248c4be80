use Rattle.cell_merge.proofs.LatestLemmas.{latest-append}
use Rattle.cell_merge.proofs.laws.appended_cells_count_where_later.Goals as goal

pub returns : goal.returns
returns c = latest-append
