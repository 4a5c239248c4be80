use Rattle.std.proofs.Common.{◌≡◌, ◌++◌, map as mapped}
use Rattle.plain_model.specs.Listed.{pair_item}
use Rattle.plain_model.proofs.index.pairs_in_order.Given as goal

abbrev pub invariant-loop-key : goal.invariant-loop-key
invariant-loop-key l = l.pairs ++ mapped pair_item l.key-iterator ≡ mapped pair_item l.initial.key-iterator
