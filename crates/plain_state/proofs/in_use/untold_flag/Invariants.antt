use Rattle.std.proofs.Common.{take}
use Rattle.state_reader.specs.Still.{ground_of}
use Rattle.plain_state.specs.Records.{AreFlagsTold}
use Rattle.plain_state.proofs.in_use.untold_flag.Given as goal

abbrev pub invariant-loop-flag : goal.invariant-loop-flag
invariant-loop-flag l = AreFlagsTold (ground_of l.still) (take l.flag-index l.flags)
