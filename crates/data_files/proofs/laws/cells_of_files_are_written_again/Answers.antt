use Rattle.data_files.proofs.AgainLemmas.{merged_again, clipped_again}
use Rattle.data_files.proofs.laws.cells_of_files_are_written_again.Goals as goal

pub returns : goal.returns
returns c = record { merged = merged_again; clipped = clipped_again }
