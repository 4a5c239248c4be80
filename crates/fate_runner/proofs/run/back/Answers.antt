use Rattle.std.proofs.Common.{refl, sym, subst}
use Rattle.fate_runner.specs.Book.{popped}
use Rattle.fate_runner.specs.Turn.{Waits_back, Undoes}
use Rattle.std.proofs.lemmas.Result.{err_from_is_err_and}
use Rattle.fate_runner.specs.Passing.{Undid, Nowhere, Asked, Has_undone, By_stacks, By_step}
use Rattle.fate_runner.specs.declared.forms.TxStatus.TheVariants.{FailedInProgress}
use Rattle.fate_runner.specs.declared.forms.Going.TheVariants.{Back}
use Rattle.fate_runner.specs.declared.forms.Ready.TheVariants.{Now, Defer}
use Rattle.fate_runner.specs.declared.forms.Turned.TheVariants.{Moved, Deferred}
use Rattle.fate_runner.proofs.Parts.{waits_here, stops_here, fails_here, turns_here, top_at, reason_at, not_given_up, given_up}
use Rattle.fate_runner.proofs.run.back.Goals as goal

pub returns-in_err-set_status-clause-takes : goal.returns-in_err-set_status-clause-takes
returns-in_err-set_status-clause-takes g c =
    not_given_up c.requires.agree g.met.S.Step.lawful g.met.S.Step.sound g.S.Step.first_reason g.S.Step.answer c.args.tid c.top.ensures.same
    c.in_ok-step.ensures.is c.in_default.is c.requires.status c.set_status.ensures.sets c.from_residual-in_err-set_status.ensures.0

pub returns-in_default-clause-takes : goal.returns-in_default-clause-takes
returns-in_default-clause-takes g c =
    given_up c.requires.agree g.met.S.Step.lawful g.met.S.Step.sound g.S.Step.first_reason g.S.Step.answer c.args.tid c.top.ensures.same
    c.in_ok-step.ensures.is c.in_default.is c.requires.status c.set_status.ensures.sets c.in_ok-set_status.was

pub returns-in-Defer-clause-takes : goal.returns-in-Defer-clause-takes
returns-in-Defer-clause-takes g c =
    let top = top_at c.requires.agree g.met.S.Step.lawful g.met.S.Step.sound g.S.Step.first_reason g.S.Step.answer c.args.tid c.in-Some.step Back
    FailedInProgress c.top.ensures.same c.in_ok-step.ensures.is c.in-Some.is c.requires.status c.in_ok-reason.ensures.looks
    c.in_ok-reason.ensures.ready (Defer c.in-Defer.reason) c.in-Defer.is in
    let reason = reason_at c.requires.agree g.met.S.Step.lawful g.met.S.Step.sound g.S.Step.first_reason g.S.Step.answer c.args.tid c.in-Some.step
    Back FailedInProgress c.top.ensures.same c.in_ok-step.ensures.is c.in-Some.is c.requires.status c.in_ok-reason.ensures.looks
    c.in_ok-reason.ensures.ready (Defer c.in-Defer.reason) c.in-Defer.is in
    waits_here c.requires.agree g.met.S.Step.lawful g.met.S.Step.sound g.S.Step.first_reason g.S.Step.answer c.args.tid c.in-Some.step Back
    FailedInProgress c.top.ensures.same c.in_ok-step.ensures.is c.in-Some.is c.requires.status c.in_ok-reason.ensures.looks
    c.in_ok-reason.ensures.ready (Defer c.in-Defer.reason) c.in-Defer.is (Deferred c.in-Defer.reason)
    (λ f kept. Waits_back c.in-Some.step c.in-Defer.reason (top f) (reason f kept) refl refl)

pub returns-in_err-undo-in-Now-clause-takes : goal.returns-in_err-undo-in-Now-clause-takes
returns-in_err-undo-in-Now-clause-takes g c =
    stops_here c.requires.agree g.met.S.Step.lawful g.met.S.Step.sound g.S.Step.first_reason g.S.Step.answer c.args.tid c.in-Some.step Back
    FailedInProgress c.top.ensures.same c.in_ok-step.ensures.is c.in-Some.is c.requires.status c.in_ok-reason.ensures.looks
    c.in_ok-reason.ensures.ready Now c.in-Now.is c.undo.ensures.keeps c.undo.ensures.works c.from_residual-in_err-undo-in-Now.ensures.0

pub returns-in_err-pop-in-Now-clause-takes : goal.returns-in_err-pop-in-Now-clause-takes
returns-in_err-pop-in-Now-clause-takes g c =
    let top = top_at c.requires.agree g.met.S.Step.lawful g.met.S.Step.sound g.S.Step.first_reason g.S.Step.answer c.args.tid c.in-Some.step Back
    FailedInProgress c.top.ensures.same c.in_ok-step.ensures.is c.in-Some.is c.requires.status c.in_ok-reason.ensures.looks
    c.in_ok-reason.ensures.ready Now c.in-Now.is in
    let reason = reason_at c.requires.agree g.met.S.Step.lawful g.met.S.Step.sound g.S.Step.first_reason g.S.Step.answer c.args.tid c.in-Some.step
    Back FailedInProgress c.top.ensures.same c.in_ok-step.ensures.is c.in-Some.is c.requires.status c.in_ok-reason.ensures.looks
    c.in_ok-reason.ensures.ready Now c.in-Now.is in
    fails_here c.requires.agree g.met.S.Step.lawful g.met.S.Step.sound g.S.Step.first_reason g.S.Step.answer c.args.tid c.in-Some.step Back
    FailedInProgress c.top.ensures.same c.in_ok-step.ensures.is c.in-Some.is c.requires.status c.in_ok-reason.ensures.looks
    c.in_ok-reason.ensures.ready Now c.in-Now.is c.in_ok-undo-in-Now.ensures.keeps c.in_ok-undo-in-Now.ensures.works popped popped (λ b. refl) refl
    c.pop.ensures.sets Moved (λ f kept. Undoes c.in-Some.step (top f) (reason f kept) refl refl) c.from_residual-in_err-pop-in-Now.ensures.0

pub returns-clause-takes : goal.returns-clause-takes
returns-clause-takes g c =
    let top = top_at c.requires.agree g.met.S.Step.lawful g.met.S.Step.sound g.S.Step.first_reason g.S.Step.answer c.args.tid c.in-Some.step Back
    FailedInProgress c.top.ensures.same c.in_ok-step.ensures.is c.in-Some.is c.requires.status c.in_ok-reason.ensures.looks
    c.in_ok-reason.ensures.ready Now c.in-Now.is in
    let reason = reason_at c.requires.agree g.met.S.Step.lawful g.met.S.Step.sound g.S.Step.first_reason g.S.Step.answer c.args.tid c.in-Some.step
    Back FailedInProgress c.top.ensures.same c.in_ok-step.ensures.is c.in-Some.is c.requires.status c.in_ok-reason.ensures.looks
    c.in_ok-reason.ensures.ready Now c.in-Now.is in
    turns_here c.requires.agree g.met.S.Step.lawful g.met.S.Step.sound g.S.Step.first_reason g.S.Step.answer c.args.tid c.in-Some.step Back
    FailedInProgress c.top.ensures.same c.in_ok-step.ensures.is c.in-Some.is c.requires.status c.in_ok-reason.ensures.looks
    c.in_ok-reason.ensures.ready Now c.in-Now.is c.in_ok-undo-in-Now.ensures.keeps c.in_ok-undo-in-Now.ensures.works popped popped (λ b. refl) refl
    c.pop.ensures.sets Moved (λ f kept. Undoes c.in-Some.step (top f) (reason f kept) refl refl) c.in_ok-pop-in-Now.was

pub returns-clause-passes : goal.returns-clause-passes
returns-clause-passes g c =
    Undid c.in-Some.step c.is_ready.new.env c.undo.new.env
    (subst (λ v. g.S.Step.same v c.is_ready.new.env) c.top.ensures.same c.in_ok-reason.ensures.same) c.in_ok-undo-in-Now.ensures.undoes
    c.in_ok-pop-in-Now.ensures.beside
    (c.requires.goes_on.stays_able c.undo.new.env c.pop.new.env c.in_ok-pop-in-Now.ensures.beside (g.met.S.Step.undone_able c.in-Some.step c.args.tid c.is_ready.new.env c.undo.new.env c.in_ok-undo-in-Now.ensures.undoes (g.met.S.Step.same_able c.top.new.env c.is_ready.new.env c.in_ok-reason.ensures.same (subst (λ v. g.S.Step.able v) (sym c.top.ensures.same) c.requires.able))))

pub returns-in_err-step-clause-stops : goal.returns-in_err-step-clause-stops
returns-in_err-step-clause-stops g c =
    let p = err_from_is_err_and c.from_residual.result c.from_residual.ensures.1 in rw (p.1, p.2) (By_stacks c.args.env.now (Nowhere refl) c.in_err-step.ensures.stops)

pub returns-in_err-set_status-clause-stops : goal.returns-in_err-set_status-clause-stops
returns-in_err-set_status-clause-stops g c =
    let p = err_from_is_err_and c.from_residual-in_err-set_status.result c.from_residual-in_err-set_status.ensures.1 in
    rw (p.1, p.2) (By_stacks c.top.new.env (Nowhere c.top.ensures.same) c.in_err-set_status.ensures.stops)

pub returns-in_err-reason-clause-stops : goal.returns-in_err-reason-clause-stops
returns-in_err-reason-clause-stops g c =
    let p = err_from_is_err_and c.from_residual-in_err-reason.result c.from_residual-in_err-reason.ensures.1 in
    rw (p.1, p.2) (By_step c.top.new.env (Nowhere c.top.ensures.same) c.in_err-reason.ensures.stops)

pub returns-in_err-undo-in-Now-clause-stops : goal.returns-in_err-undo-in-Now-clause-stops
returns-in_err-undo-in-Now-clause-stops g c =
    let p = err_from_is_err_and c.from_residual-in_err-undo-in-Now.result c.from_residual-in_err-undo-in-Now.ensures.1 in
    rw (p.1, p.2)
    (By_step c.is_ready.new.env (Asked (subst (λ v. g.S.Step.same v c.is_ready.new.env) c.top.ensures.same c.in_ok-reason.ensures.same)) c.in_err-undo-in-Now.ensures.stops)

pub returns-in_err-pop-in-Now-clause-stops : goal.returns-in_err-pop-in-Now-clause-stops
returns-in_err-pop-in-Now-clause-stops g c =
    let p = err_from_is_err_and c.from_residual-in_err-pop-in-Now.result c.from_residual-in_err-pop-in-Now.ensures.1 in
    rw (p.1, p.2)
    (By_stacks c.undo.new.env (Has_undone c.in-Some.step c.is_ready.new.env (subst (λ v. g.S.Step.same v c.is_ready.new.env) c.top.ensures.same c.in_ok-reason.ensures.same) c.in_ok-undo-in-Now.ensures.undoes) c.in_err-pop-in-Now.ensures.stops)
