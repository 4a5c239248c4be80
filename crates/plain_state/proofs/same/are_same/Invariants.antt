use Rattle.std.proofs.Common.{◌≡◌, map, take}
use Rattle.log_files.proofs.SortLemmas.{shown}
use Rattle.plain_state.proofs.same.are_same.Given as goal

abbrev pub invariant-loop-at : goal.invariant-loop-at
invariant-loop-at l = map shown (take l.at l.one) ≡ take l.at l.other
