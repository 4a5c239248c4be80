use Rattle.std.proofs.Common.{◌≡◌, ◌++◌, take}
use Rattle.data_files.specs.Cells.{spelled_cells}
use Rattle.data_files.proofs.file_bytes.put_cells.Given as goal

abbrev pub invariant-loop-cell : goal.invariant-loop-cell
invariant-loop-cell l = l.out.items ≡ l.fn.out.items ++ spelled_cells (take l.cell-index l.cells)
