use Rattle.tablet_mem.proofs.LawsLemmas.{cells-all}
use Rattle.tablet_mem.proofs.laws.the_cells_are_those_put.Goals as goal

pub returns : goal.returns
returns c = cells-all
