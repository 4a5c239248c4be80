use Rattle.std.proofs.Common.{take}
use Rattle.plain_state.proofs.LogLemmas.{AreValues}
use Rattle.plain_state.proofs.log_nodes.listed.Given as goal

abbrev pub invariant-loop-path : goal.invariant-loop-path
invariant-loop-path l = AreValues l.nodes.nodes (take l.path-index l.path-items) l.logs.items
