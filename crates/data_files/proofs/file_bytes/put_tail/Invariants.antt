use Rattle.std.proofs.Common.{◌≡◌, ◌+◌, ◌++◌, take, length}
use Rattle.data_files.specs.Cells.{spelled_cells}
use Rattle.data_files.proofs.SizeLemmas.{index}
use Rattle.data_files.proofs.file_bytes.put_tail.Given as goal

abbrev pub invariant-loop-number : goal.invariant-loop-number
invariant-loop-number l = record {
  spelled : l.out.items ≡ l.fn.out.items ++ index (take l.number l.cells);
  counts : l.offset ≡ 24 + length (spelled_cells (take l.number l.cells));
}
