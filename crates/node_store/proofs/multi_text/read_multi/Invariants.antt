use Rattle.std.proofs.Common.{◌≡◌, length}
use Rattle.node_store.proofs.ReadingLemmas.{ReadSoFar}
use Rattle.node_store.proofs.multi_text.read_multi.Given as goal

abbrev pub invariant-loop : goal.invariant-loop
invariant-loop l = record {
  so_far : ReadSoFar l.payload l.end l.ops.items l.rest;
  counts : length l.ops.items ≡ l.counter;
}
