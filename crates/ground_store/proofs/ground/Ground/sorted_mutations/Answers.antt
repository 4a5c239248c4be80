use Rattle.ground_store.proofs.ActLemmas.{rests_looked}
use Rattle.ground_store.proofs.ground.Ground.sorted_mutations.Goals as goal

pub invariant_of-self : goal.invariant_of-self
invariant_of-self g c = λ alive. rests_looked (g.met.H.Host.sound c.self.inside.host) (c.self.invariant alive) c.in-Ok.ensures.looks
