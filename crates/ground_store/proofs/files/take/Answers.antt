use Rattle.ground_store.proofs.StepLemmas.{alters_taken}
use Rattle.ground_store.proofs.files.take.Goals as goal

pub returns-clause-alters : goal.returns-clause-alters
returns-clause-alters g c = alters_taken tt (g.met.H.Host.sound c.args.host.now) c.in_ok-remove.ensures
