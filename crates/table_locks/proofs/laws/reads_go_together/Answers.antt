use Rattle.table_locks.proofs.GrantsLemmas.{reads_free}
use Rattle.table_locks.proofs.laws.reads_go_together.Goals as goal

pub returns : goal.returns
returns c = λ before after one lacks reads is. reads_free before after one lacks reads is
