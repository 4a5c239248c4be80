use Rattle.log_files.proofs.SortLemmas.{one_sort}
use Rattle.log_files.proofs.laws.mutations_have_one_stable_sort.Goals as goal

pub returns : goal.returns
returns c = one_sort
