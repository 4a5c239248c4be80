use Rattle.std.proofs.Common.{◌≡◌, drop}
use Rattle.node_store.specs.PathsTo.{overlaid}
use Rattle.node_store.specs.Nodes.{multi_applied}
use Rattle.node_store.proofs.staged.stage.Given as goal

abbrev pub invariant-loop-op : goal.invariant-loop-op
invariant-loop-op l = multi_applied l.ops l.nodes ≡ multi_applied (drop l.op-index l.ops) (overlaid l.nodes l.staged)
