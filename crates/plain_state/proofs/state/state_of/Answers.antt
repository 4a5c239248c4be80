use Rattle.std.proofs.lemmas.Result.{IfErr-weaker}
use Rattle.state_reader.specs.Still.{ground_of}
use Rattle.plain_state.proofs.NoState.{no_state, no_byte_state}
use Rattle.plain_state.proofs.state.state_of.Goals as goal

pub returns-clause-none : goal.returns-clause-none
returns-clause-none c = IfErr-weaker c.stood_for.result _ _ (λ fault cause firm short other. no_state (ground_of c.args.still.now) fault cause firm short other) c.stood_for.ensures.cause

pub returns-clause-none_of_bytes : goal.returns-clause-none_of_bytes
returns-clause-none_of_bytes c = IfErr-weaker c.stood_for.result _ _ (λ fault cause firm short. no_byte_state (ground_of c.args.still.now) fault cause firm short) c.stood_for.ensures.cause
