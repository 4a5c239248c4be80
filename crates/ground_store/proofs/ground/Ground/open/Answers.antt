use Rattle.ground_store.proofs.OpeningLemmas.{damaged_not_stored}
use Rattle.ground_store.proofs.ground.Ground.open.Goals as goal

pub returns-in-Ok-clause-damaged : goal.returns-in-Ok-clause-damaged
returns-in-Ok-clause-damaged g c = λ f none. absurd (damaged_not_stored c.in-Ok.nodes (g.H.Host.state c.args.host).files c.in-Ok.ensures.name (c.in-Ok.ensures.stored f) none)
