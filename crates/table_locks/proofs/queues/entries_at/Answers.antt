use Rattle.std.proofs.Common.{arith}
use Rattle.table_locks.proofs.QueueLemmas.{stands_all}
use Rattle.table_locks.proofs.queues.entries_at.Goals as goal

pub returns : goal.returns
returns c = stands_all c.args.table.now c.args.nodes.now.nodes c.args.paths.now c.loop-path.entries.items c.loop-path.path-index (omega (arith, c.loop-path-test.false)) c.loop-path.invariant
