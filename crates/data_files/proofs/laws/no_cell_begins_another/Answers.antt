use Rattle.data_files.proofs.CellLemmas.{IsPrefixFree-cell}
use Rattle.data_files.proofs.laws.no_cell_begins_another.Goals as goal

pub returns : goal.returns
returns c = IsPrefixFree-cell
