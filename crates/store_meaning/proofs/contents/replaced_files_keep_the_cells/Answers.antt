use Rattle.store_meaning.proofs.FileLemmas.{files_covered}
use Rattle.store_meaning.proofs.contents.replaced_files_keep_the_cells.Goals as goal

pub returns : goal.returns
returns c = files_covered
