use Rattle.log_files.specs.Sorted.{sorted_name}
use Rattle.store_layout.specs.Names.{nodes_name, file_of}
use Rattle.store_meaning.proofs.AgreeLemmas.{one_file, one_log, one_sorted}
use Rattle.store_meaning.proofs.laws.grounds_of_an_image_agree.Goals as goal

pub returns : goal.returns
returns c = λ image one other first second. record {
  nodes = c.nodes_are_one.ensures nodes_name image one.nodes other.nodes first.nodes second.nodes;
  cells = λ path a b at_one at_other. one_file c.a_file_has_one_list_of_cells.ensures.cells (file_of path) image a b (first.cells path a at_one).holds (second.cells path b at_other).holds;
  mutations = λ log a b at_one at_other. one_log c.a_log_has_one_list_of_mutations.ensures log image a b (first.mutations log a at_one).holds (second.mutations log b at_other).holds;
  sorted = λ log a b at_one at_other. one_sorted c.a_sorted_log_has_one_list.ensures.mutations (sorted_name log) image a b (first.sorted log a at_one).holds (second.sorted log b at_other).holds;
}
