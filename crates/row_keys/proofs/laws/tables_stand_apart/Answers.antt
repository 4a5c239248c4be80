use Rattle.row_keys.proofs.MetadataRowsLemmas.{tables_apart}
use Rattle.row_keys.proofs.laws.tables_stand_apart.Goals as goal

pub returns : goal.returns
returns c = tables_apart
