use Rattle.row_keys.proofs.MetadataRowsLemmas.{one_to_one}
use Rattle.row_keys.proofs.laws.metadata_rows_are_one_to_one.Goals as goal

pub returns : goal.returns
returns c = one_to_one
