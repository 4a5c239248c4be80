use Rattle.std.proofs.Common.{take}
use Rattle.state_reader.specs.Still.{ground_of}
use Rattle.plain_state.specs.Records.{ArePathsTold}
use Rattle.plain_state.proofs.marked.untold_path.Given as goal

abbrev pub invariant-loop-path : goal.invariant-loop-path
invariant-loop-path l = ArePathsTold (ground_of l.still) (take l.path-index l.paths)
