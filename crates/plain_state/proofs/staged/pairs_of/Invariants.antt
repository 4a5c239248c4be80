use Rattle.std.proofs.Common.{◌≡◌, map, take}
use Rattle.plain_state.specs.Pairs.{plain_pair}
use Rattle.plain_state.proofs.staged.pairs_of.Given as goal

abbrev pub invariant-loop-pair : goal.invariant-loop-pair
invariant-loop-pair l = l.pairs.items ≡ map plain_pair (take l.pair-index l.pair-items)
