use Rattle.ground_store.proofs.OpeningLemmas.{rests_fresh}
use Rattle.ground_store.proofs.opening.over.Goals as goal

pub invariant_of-result : goal.invariant_of-result
invariant_of-result g c = λ runs. rests_fresh c.args.nodes (g.H.Host.state c.args.host) c.new.ensures c.requires.name c.requires.stored c.requires.settled
