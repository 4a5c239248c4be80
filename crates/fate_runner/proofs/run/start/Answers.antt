use Rattle.std.proofs.Common.{refl}
use Rattle.std.proofs.lemmas.Result.{err_from_is_err_and}
use Rattle.fate_runner.specs.Passing.{Nowhere, By_stacks}
use Rattle.fate_runner.proofs.Parts.{not_started, is_started}
use Rattle.fate_runner.proofs.run.start.Goals as goal

pub returns-in_err-set_status-clause-takes : goal.returns-in_err-set_status-clause-takes
returns-in_err-set_status-clause-takes g c =
    not_started c.requires.agree g.met.S.Step.lawful g.met.S.Step.sound g.S.Step.first_reason g.S.Step.answer c.args.tid c.requires.status c.set_status.ensures.sets c.from_residual.ensures.0

pub returns-clause-takes : goal.returns-clause-takes
returns-clause-takes g c =
    is_started c.requires.agree g.met.S.Step.lawful g.met.S.Step.sound g.S.Step.first_reason g.S.Step.answer c.args.tid c.requires.status c.set_status.ensures.sets c.in_ok-set_status.was

pub returns-in_err-set_status-clause-stops : goal.returns-in_err-set_status-clause-stops
returns-in_err-set_status-clause-stops g c =
    let p = err_from_is_err_and c.from_residual.result c.from_residual.ensures.1 in rw (p.1, p.2) (By_stacks c.args.env.now (Nowhere refl) c.in_err-set_status.ensures.stops)
