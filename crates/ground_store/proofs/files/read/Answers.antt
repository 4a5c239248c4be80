use Rattle.host_model.proofs.CallsLemmas.{looks-refl}
use Rattle.ground_store.proofs.files.read.Goals as goal

pub returns-in_err-name-clause-looks : goal.returns-in_err-name-clause-looks
returns-in_err-name-clause-looks g c = looks-refl (g.H.Host.state c.args.host.now)
