use Rattle.data_files.proofs.FileLemmas.{one_list}
use Rattle.data_files.proofs.laws.a_file_has_one_list_of_cells.Goals as goal

pub returns-clause-cells : goal.returns-clause-cells
returns-clause-cells c = one_list
