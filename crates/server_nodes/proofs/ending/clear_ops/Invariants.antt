use Rattle.std.proofs.Common.{◌≡◌, map}
use Rattle.server_nodes.specs.Ending.{delete_op}
use Rattle.server_nodes.proofs.ending.clear_ops.Given as goal

abbrev pub invariant-loop-path : goal.invariant-loop-path
invariant-loop-path l = l.ops.items ≡ map delete_op l.yielded
