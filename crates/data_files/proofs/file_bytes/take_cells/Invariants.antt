use Rattle.std.proofs.Common.{◌≡◌, length}
use Rattle.data_files.proofs.FileLemmas.{ReadSoFar}
use Rattle.data_files.proofs.file_bytes.take_cells.Given as goal

abbrev pub invariant-loop : goal.invariant-loop
invariant-loop l = record {
  so_far : ReadSoFar l.bytes l.cells.items l.rest;
  counts : length l.cells.items ≡ l.counter;
}
