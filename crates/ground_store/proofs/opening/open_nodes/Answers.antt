use Rattle.host_model.proofs.CallsLemmas.{looks-refl}
use Rattle.ground_store.proofs.OpeningLemmas.{looks_then}
use Rattle.ground_store.proofs.opening.open_nodes.Goals as goal

pub returns-in_err-name-clause-looks : goal.returns-in_err-name-clause-looks
returns-in_err-name-clause-looks g c = looks-refl (g.H.Host.state c.args.host.now)

pub returns-in_err-open-clause-looks : goal.returns-in_err-open-clause-looks
returns-in_err-open-clause-looks g c = looks_then c.in_ok-is_born.ensures.looks c.in_err-open.ensures.looks

pub returns-clause-looks : goal.returns-clause-looks
returns-clause-looks g c = looks_then c.in_ok-is_born.ensures.looks c.in_ok-open.ensures.looks
