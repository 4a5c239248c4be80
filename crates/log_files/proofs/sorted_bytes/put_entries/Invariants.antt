use Rattle.std.proofs.Common.{◌≡◌, ◌++◌, map, take}
use Rattle.std.specs.List.{flat_map}
use Rattle.log_files.specs.Sorted.{spelled_entry}
use Rattle.log_files.proofs.SortLemmas.{shown}
use Rattle.log_files.proofs.sorted_bytes.put_entries.Given as goal

abbrev pub invariant-loop-mutation : goal.invariant-loop-mutation
invariant-loop-mutation l = l.out.items ≡ l.fn.out.items ++ flat_map spelled_entry (map shown (take l.mutation-index l.mutations))
