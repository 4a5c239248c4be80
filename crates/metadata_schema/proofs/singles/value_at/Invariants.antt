use Rattle.std.proofs.Common.{◌≡◌, None, take}
use Rattle.metadata_schema.specs.Columns.{update_at}
use Rattle.metadata_schema.proofs.singles.value_at.Given as goal

abbrev pub invariant-loop-update : goal.invariant-loop-update
invariant-loop-update l = update_at (take l.update-index l.updates) l.family l.qualifier ≡ None
