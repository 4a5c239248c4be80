use Rattle.std.proofs.Common.{take}
use Rattle.plain_state.specs.Logs.{AreAmong}
use Rattle.plain_state.proofs.listed.unlisted.Given as goal

abbrev pub invariant-loop-log : goal.invariant-loop-log
invariant-loop-log l = AreAmong l.listed (take l.log-index l.logs)
