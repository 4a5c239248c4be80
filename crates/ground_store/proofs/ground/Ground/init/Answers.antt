use Rattle.std.proofs.Common.{sym, subst}
use Rattle.store_layout.specs.NewStore.{IsNewStore}
use Rattle.ground_store.proofs.ground.Ground.init.Goals as goal

pub returns-in-Ok-clause-new_store : goal.returns-in-Ok-clause-new_store
returns-in-Ok-clause-new_store g c = λ f. subst (λ h. IsNewStore (g.H.Host.state h).files) (sym c.over.ensures.host) (c.in-Ok.ensures.new_store f)
