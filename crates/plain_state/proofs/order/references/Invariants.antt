use Rattle.std.proofs.Common.{◌≡◌, map, take}
use Rattle.log_files.proofs.SortLemmas.{shown}
use Rattle.plain_state.proofs.order.references.Given as goal

abbrev pub invariant-loop-mutation : goal.invariant-loop-mutation
invariant-loop-mutation l = map shown l.all.items ≡ take l.mutation-index l.mutations
