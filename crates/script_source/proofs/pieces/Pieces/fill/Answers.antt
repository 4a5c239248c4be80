use Rattle.script_source.proofs.HearingLemmas.{listens-refl}
use Rattle.script_source.proofs.pieces.Pieces.fill.Goals as goal

pub returns-then-self-clause-listens : goal.returns-then-self-clause-listens
returns-then-self-clause-listens g c = listens-refl (g.H.Host.state c.args.host.now)
