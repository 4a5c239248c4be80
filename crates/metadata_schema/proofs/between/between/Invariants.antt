use Rattle.std.proofs.Common.{length, ◌-◌, ◌+◌, ◌≡◌, ◌++◌, ◌≤◌, drop}
use Rattle.metadata_schema.specs.Merging.{between}
use Rattle.metadata_schema.proofs.between.between.Given as goal

abbrev pub invariant-loop-from : goal.invariant-loop-from
invariant-loop-from l = record {
  rest : l.updates.items ++ between (drop l.from l.old) (drop l.to l.new) ≡ between l.old l.new;
  from_within : l.from ≤ length l.old;
  to_within : l.to ≤ length l.new;
}

abbrev pub decreases-loop-from : goal.decreases-loop-from
decreases-loop-from l = (length l.old - l.from) + (length l.new - l.to)
