use Rattle.std.proofs.Common.{List, ◌++◌, drop}
use Rattle.table_locks.specs.Entries.{EachStands}
use Rattle.table_locks.specs.declared.grants.LockEntry.{LockEntry}
use Rattle.table_locks.proofs.queues.entries_at.Given as goal

abbrev pub invariant-loop-path : goal.invariant-loop-path
invariant-loop-path l = (rest : List LockEntry) → EachStands l.table l.nodes.nodes (drop l.path-index l.paths) rest → EachStands l.table l.nodes.nodes l.paths (l.entries.items ++ rest)
