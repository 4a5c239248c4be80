use Rattle.kept_meaning.proofs.CounterLemmas.{counter_draws}
use Rattle.kept_meaning.proofs.nodes.a_counter_may_rise.Goals as goal

pub returns : goal.returns
returns c = counter_draws
