use Rattle.std.proofs.lemmas.Result.{IfErr-weaker}
use Rattle.state_reader.specs.Still.{ground_of}
use Rattle.state_reader.proofs.NoReadings.{no_reading}
use Rattle.state_reader.proofs.reading.read.Goals as goal

pub returns-clause-none : goal.returns-clause-none
returns-clause-none c = IfErr-weaker c.read_levels.result _ _ (λ fault cause other short. no_reading (ground_of c.args.still.now) fault cause other short) c.read_levels.ensures.cause
