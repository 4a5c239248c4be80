use Rattle.table_store.proofs.LawsLemmas.{created_applied, taken_refused}
use Rattle.table_store.proofs.laws.created_is_applied.Goals as goal

pub returns-clause-made : goal.returns-clause-made
returns-clause-made c = created_applied

pub returns-clause-refused : goal.returns-clause-refused
returns-clause-refused c = taken_refused
