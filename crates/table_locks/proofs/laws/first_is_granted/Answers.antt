use Rattle.table_locks.proofs.GrantsLemmas.{first_free}
use Rattle.table_locks.proofs.laws.first_is_granted.Goals as goal

pub returns : goal.returns
returns c = λ one after. first_free one after
