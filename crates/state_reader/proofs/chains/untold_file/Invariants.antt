use Rattle.std.proofs.Common.{take}
use Rattle.state_reader.specs.Still.{ground_of}
use Rattle.state_reader.specs.Lacks.{AreFilesTold}
use Rattle.state_reader.proofs.chains.untold_file.Given as goal

abbrev pub invariant-loop-file : goal.invariant-loop-file
invariant-loop-file l = AreFilesTold (ground_of l.still) (take l.file-index l.files)
