use Rattle.std.proofs.Common.{take}
use Rattle.plain_state.proofs.LogLemmas.{AreBehind}
use Rattle.plain_state.proofs.log_nodes.listed_sorted.Given as goal

abbrev pub invariant-loop-path : goal.invariant-loop-path
invariant-loop-path l = AreBehind l.nodes.nodes (take l.path-index l.path-items) l.logs.items
