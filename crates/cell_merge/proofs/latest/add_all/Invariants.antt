use Rattle.std.proofs.Common.{List, ◌++◌, take}
use Rattle.cell_merge.specs.declared.cell.Cell.{Cell}
use Rattle.cell_merge.specs.Index.{IsIndexOf}
use Rattle.cell_merge.proofs.latest.add_all.Given as goal

abbrev pub invariant-loop-cell : goal.invariant-loop-cell
invariant-loop-cell l = (cells : List Cell) → IsIndexOf cells l.fn.latest → IsIndexOf (cells ++ take l.cell-index l.more) l.latest
