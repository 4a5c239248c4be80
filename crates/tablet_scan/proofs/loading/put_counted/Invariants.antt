use Rattle.std.proofs.Common.{◌≡◌, take}
use Rattle.std.specs.List.{filter}
use Rattle.std.specs.Option.{option_copied}
use Rattle.tablet_mem.specs.Memory.{put_all}
use Rattle.store_meaning.specs.Writes.{counts_in}
use Rattle.tablet_scan.proofs.loading.put_counted.Given as goal

abbrev pub invariant-loop-mutation : goal.invariant-loop-mutation
invariant-loop-mutation l = l.memory ≡ put_all l.initial.memory (filter (counts_in (option_copied l.low) l.tablet) (take l.mutation-index l.mutations))
