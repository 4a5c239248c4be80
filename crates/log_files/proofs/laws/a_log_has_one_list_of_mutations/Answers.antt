use Rattle.log_files.proofs.LogLemmas.{one_log}
use Rattle.log_files.proofs.laws.a_log_has_one_list_of_mutations.Goals as goal

pub returns : goal.returns
returns c = one_log
