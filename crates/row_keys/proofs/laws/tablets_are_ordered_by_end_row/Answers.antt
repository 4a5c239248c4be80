use Rattle.row_keys.proofs.MetadataRowsLemmas.{by_end_row}
use Rattle.row_keys.proofs.laws.tablets_are_ordered_by_end_row.Goals as goal

pub returns : goal.returns
returns c = by_end_row
