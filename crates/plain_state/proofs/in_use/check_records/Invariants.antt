use Rattle.std.proofs.Common.{take}
use Rattle.state_reader.specs.Still.{ground_of}
use Rattle.plain_state.specs.Records.{AreAllTold}
use Rattle.plain_state.proofs.in_use.check_records.Given as goal

abbrev pub invariant-loop-tablet : goal.invariant-loop-tablet
invariant-loop-tablet l = AreAllTold (ground_of l.still) (take l.tablet-index l.records)
