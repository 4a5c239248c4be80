use Rattle.table_locks.proofs.GrantsLemmas.{not_before}
use Rattle.table_locks.proofs.laws.earlier_first.Goals as goal

pub returns : goal.returns
returns c = λ before between after one two lacks write. not_before before between after one two lacks write
