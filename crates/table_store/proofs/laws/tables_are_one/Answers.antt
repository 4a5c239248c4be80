use Rattle.table_store.proofs.LawsLemmas.{one_tables}
use Rattle.table_store.proofs.laws.tables_are_one.Goals as goal

pub returns : goal.returns
returns c = one_tables
