use Rattle.std.proofs.Common.{◌≡◌, drop}
use Rattle.table_locks.specs.Grants.{kind_of}
use Rattle.table_locks.proofs.grants.lock_kind.Given as goal

abbrev pub invariant-loop-entry : goal.invariant-loop-entry
invariant-loop-entry l = kind_of (drop l.entry-index l.entries) l.tid ≡ kind_of l.entries l.tid
