use Rattle.std.proofs.Common.{◌≡◌, drop}
use Rattle.table_locks.specs.Grants.{first_write}
use Rattle.table_locks.proofs.grants.write_before.Given as goal

abbrev pub invariant-loop-entry : goal.invariant-loop-entry
invariant-loop-entry l = first_write (drop l.entry-index l.entries) l.tid ≡ first_write l.entries l.tid
