use Rattle.std.proofs.Common.{◌≡◌, ◌++◌, take}
use Rattle.std.specs.List.{flat_map}
use Rattle.log_files.specs.Mutations.{spelled_update}
use Rattle.log_files.proofs.updates.put_each.Given as goal

abbrev pub invariant-loop-update : goal.invariant-loop-update
invariant-loop-update l = l.out.items ≡ l.fn.out.items ++ flat_map spelled_update (take l.update-index l.updates)
