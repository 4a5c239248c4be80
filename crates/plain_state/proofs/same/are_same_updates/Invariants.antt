use Rattle.std.proofs.Common.{◌≡◌, take}
use Rattle.plain_state.proofs.same.are_same_updates.Given as goal

abbrev pub invariant-loop-at : goal.invariant-loop-at
invariant-loop-at l = take l.at l.one ≡ take l.at l.other
