use Rattle.table_names.proofs.ChangeLemmas.{set_writes, make_writes}
use Rattle.table_names.proofs.laws.a_set_table_changes_that_table_alone.Goals as goal

pub returns : goal.returns
returns c = record { set = set_writes; made = make_writes }
