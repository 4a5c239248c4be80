use Rattle.host_model.proofs.CallsLemmas.{looks-refl}
use Rattle.fate_trial.proofs.levels.LevelStepSite.is_ready.Goals as goal

pub returns-clause-looks : goal.returns-clause-looks
returns-clause-looks g c = looks-refl (g.H.Host.state c.args.env.now.host)
