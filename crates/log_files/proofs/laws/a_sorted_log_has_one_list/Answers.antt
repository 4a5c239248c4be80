use Rattle.log_files.proofs.SortedLemmas.{one_sorted}
use Rattle.log_files.proofs.laws.a_sorted_log_has_one_list.Goals as goal

pub returns-clause-mutations : goal.returns-clause-mutations
returns-clause-mutations c = one_sorted
