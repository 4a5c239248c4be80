use Rattle.std.proofs.Common.{List, sym, subst}
use Rattle.cell_merge.specs.declared.cell.Cell.{Cell}
use Rattle.data_files.specs.Cells.{AreFileCells}
use Rattle.data_files.proofs.OrderLemmas.{are_none}
use Rattle.data_files.proofs.tests.none.Goals as goal

pub returns : goal.returns
returns c = subst (λ (l : List Cell). AreFileCells l) (sym c.new.ensures.items) are_none
