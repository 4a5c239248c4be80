use Rattle.std.proofs.Common.{◌≡◌, ◌++◌, take}
use Rattle.metadata_schema.proofs.between.push_copies.Given as goal

abbrev pub invariant-loop-column : goal.invariant-loop-column
invariant-loop-column l = l.updates.items ≡ l.initial.updates.items ++ take l.column-index l.columns
