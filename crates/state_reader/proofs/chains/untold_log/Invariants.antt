use Rattle.std.proofs.Common.{take}
use Rattle.state_reader.specs.Still.{ground_of}
use Rattle.state_reader.specs.Lacks.{AreLogsTold}
use Rattle.state_reader.proofs.chains.untold_log.Given as goal

abbrev pub invariant-loop-log : goal.invariant-loop-log
invariant-loop-log l = AreLogsTold (ground_of l.still) (take l.log-index l.logs)
