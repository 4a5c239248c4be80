use Rattle.std.proofs.Common.{take}
use Rattle.state_reader.specs.Still.{ground_of}
use Rattle.plain_state.specs.States.{AreStagedIn}
use Rattle.plain_state.proofs.staged.put_files.Given as goal

abbrev pub invariant-loop-name : goal.invariant-loop-name
invariant-loop-name l = AreStagedIn (ground_of l.still) (take l.name-index l.files) l.initial.state l.state
