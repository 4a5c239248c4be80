use Rattle.script_source.proofs.HearingLemmas.{listens-refl}
use Rattle.script_source.proofs.script.Script.next_line.Goals as goal

pub returns-in-Some-clause-listens : goal.returns-in-Some-clause-listens
returns-in-Some-clause-listens g c = listens-refl (g.H.Host.state c.args.host.now)
