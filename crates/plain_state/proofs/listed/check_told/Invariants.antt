use Rattle.std.proofs.Common.{take}
use Rattle.state_reader.specs.Still.{ground_of}
use Rattle.plain_state.specs.Logs.{AreTold}
use Rattle.plain_state.proofs.listed.check_told.Given as goal

abbrev pub invariant-loop-log : goal.invariant-loop-log
invariant-loop-log l = AreTold (ground_of l.still) (take l.log-index l.listed)
