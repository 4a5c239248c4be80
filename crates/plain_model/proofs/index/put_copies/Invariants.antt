use Rattle.std.proofs.Common.{◌≡◌, take}
use Rattle.std.specs.FinMap as map
use Rattle.plain_model.specs.State.{PairMap}
use Rattle.plain_model.specs.Apply.{entries_of, put_all}
use Rattle.plain_model.proofs.index.put_copies.Given as goal

abbrev pub invariant-loop-pair : goal.invariant-loop-pair
invariant-loop-pair l = (m : PairMap) → l.initial.index.entries ≡ map.entries m → l.index.entries ≡ map.entries (put_all (entries_of (take l.pair-index l.pairs)) m)
