use Rattle.std.proofs.Common.{◌≡◌, length}
use Rattle.std.specs.Vec.Iter.{into_iter_items, into_iter_len}
use Rattle.tablet_mem.proofs.CountLemmas.{IsCounting}
use Rattle.tablet_mem.proofs.unflushed.Unflushed.put_ready.Given as goal

abbrev pub invariant-loop-one : goal.invariant-loop-one
invariant-loop-one l = record {
  long : into_iter_len l.one-iterator ≡ length (into_iter_items l.one-iterator);
  counting : IsCounting l.fn.self l.self l.fn.ready.items (into_iter_items l.one-iterator);
}
