use Rattle.std.proofs.Common.{take}
use Rattle.plain_state.specs.Logs.{HaveLogsAmong}
use Rattle.plain_state.proofs.listed.check_listed.Given as goal

abbrev pub invariant-loop-tablet : goal.invariant-loop-tablet
invariant-loop-tablet l = HaveLogsAmong l.listed (take l.tablet-index l.records)
