use Rattle.std.proofs.Common.{take}
use Rattle.state_reader.specs.Still.{ground_of}
use Rattle.plain_state.specs.Logs.{AreSortedThere}
use Rattle.plain_state.proofs.sorted.check_sorted.Given as goal

abbrev pub invariant-loop-log : goal.invariant-loop-log
invariant-loop-log l = AreSortedThere (ground_of l.still) l.listed (take l.log-index l.listed_sorted)
