use Rattle.std.proofs.Common.{◌≡◌, ◌++◌, take, map}
use Rattle.metadata_schema.specs.Merging.{removal_of}
use Rattle.metadata_schema.proofs.between.push_removals.Given as goal

abbrev pub invariant-loop-column : goal.invariant-loop-column
invariant-loop-column l = l.updates.items ≡ l.initial.updates.items ++ map removal_of (take l.column-index l.columns)
