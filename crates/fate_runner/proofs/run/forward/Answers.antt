use Rattle.std.proofs.Common.{Some, None, Ok, Err, refl, ◌∙◌, ap, subst, rules}
use Rattle.fate_runner.specs.Book.{pushed, with_status}
use Rattle.host_model.specs.State.{picture_now}
use Rattle.fate_runner.specs.Works.{next_book, Answers}
use Rattle.fate_runner.specs.Turn.{Waits, Pushes, Ends, Breaks}
use Rattle.std.proofs.lemmas.Result.{err_from_is_err_and}
use Rattle.fate_runner.specs.Passing.{Called, Nowhere, Asked, Has_called, By_stacks, By_step}
use Rattle.fate_runner.specs.declared.forms.TxStatus.TheVariants.{InProgress, FailedInProgress, Successful}
use Rattle.fate_runner.specs.declared.forms.Going.TheVariants.{Forward}
use Rattle.fate_runner.specs.declared.forms.Ready.TheVariants.{Now, Defer}
use Rattle.fate_runner.specs.declared.forms.Turned.TheVariants.{Moved, Deferred, Broken, Ended}
use Rattle.fate_runner.proofs.Parts.{waits_here, stops_here, fails_here, turns_here, top_at, reason_at, answer_at, failed_did, stop_is}
use Rattle.fate_runner.proofs.run.forward.Goals as goal

pub returns-in-Defer-clause-takes : goal.returns-in-Defer-clause-takes
returns-in-Defer-clause-takes g c =
    let top = top_at c.requires.agree g.met.S.Step.lawful g.met.S.Step.sound g.S.Step.first_reason g.S.Step.answer c.args.tid c.in-Some.step Forward
    InProgress c.top.ensures.same c.in_ok-step.ensures.is c.in-Some.is c.requires.status c.in_ok-reason.ensures.looks c.in_ok-reason.ensures.ready
    (Defer c.in-Defer.reason) c.in-Defer.is in
    let reason = reason_at c.requires.agree g.met.S.Step.lawful g.met.S.Step.sound g.S.Step.first_reason g.S.Step.answer c.args.tid c.in-Some.step
    Forward InProgress c.top.ensures.same c.in_ok-step.ensures.is c.in-Some.is c.requires.status c.in_ok-reason.ensures.looks
    c.in_ok-reason.ensures.ready (Defer c.in-Defer.reason) c.in-Defer.is in
    waits_here c.requires.agree g.met.S.Step.lawful g.met.S.Step.sound g.S.Step.first_reason g.S.Step.answer c.args.tid c.in-Some.step Forward
    InProgress c.top.ensures.same c.in_ok-step.ensures.is c.in-Some.is c.requires.status c.in_ok-reason.ensures.looks c.in_ok-reason.ensures.ready
    (Defer c.in-Defer.reason) c.in-Defer.is (Deferred c.in-Defer.reason)
    (λ f kept. Waits c.in-Some.step c.in-Defer.reason (top f) (reason f kept) refl refl)

pub returns-in_err-push-in-Ok-Push-clause-takes : goal.returns-in_err-push-in-Ok-Push-clause-takes
returns-in_err-push-in-Ok-Push-clause-takes g c =
    let top = top_at c.requires.agree g.met.S.Step.lawful g.met.S.Step.sound g.S.Step.first_reason g.S.Step.answer c.args.tid c.in-Some.step Forward
    InProgress c.top.ensures.same c.in_ok-step.ensures.is c.in-Some.is c.requires.status c.in_ok-reason.ensures.looks c.in_ok-reason.ensures.ready Now
    c.in-Now.is in
    let reason = reason_at c.requires.agree g.met.S.Step.lawful g.met.S.Step.sound g.S.Step.first_reason g.S.Step.answer c.args.tid c.in-Some.step
    Forward InProgress c.top.ensures.same c.in_ok-step.ensures.is c.in-Some.is c.requires.status c.in_ok-reason.ensures.looks
    c.in_ok-reason.ensures.ready Now c.in-Now.is in
    let answer = answer_at c.requires.agree g.met.S.Step.lawful g.met.S.Step.sound g.S.Step.first_reason g.S.Step.answer c.args.tid c.in-Some.step
    Forward InProgress c.top.ensures.same c.in_ok-step.ensures.is c.in-Some.is c.requires.status c.in_ok-reason.ensures.looks
    c.in_ok-reason.ensures.ready Now c.in-Now.is
    (g.met.S.Step.same_answer c.in-Some.step c.args.tid c.top.new.env c.is_ready.new.env c.in_ok-reason.ensures.same)
    (λ is_top f kept. c.in-Ok-Push.ensures.answers is_top f kept ∙ (ap Ok c.in-Ok-Push.field-0-is)) in
    fails_here c.requires.agree g.met.S.Step.lawful g.met.S.Step.sound g.S.Step.first_reason g.S.Step.answer c.args.tid c.in-Some.step Forward
    InProgress c.top.ensures.same c.in_ok-step.ensures.is c.in-Some.is c.requires.status c.in_ok-reason.ensures.looks c.in_ok-reason.ensures.ready Now
    c.in-Now.is c.in-Ok-Push.ensures.keeps c.in-Ok-Push.ensures.works (pushed (g.K.Stacks.spelled c.in-Ok-Push.next))
    (pushed (g.S.Step.spelled c.in-Ok-Push.next)) (λ b. ap (λ w. pushed w b) (c.requires.agree.same_words c.in-Ok-Push.next))
    (ap (λ n. next_book g.S.Step.spelled (g.S.Step.meaning.book (picture_now (g.S.Step.state c.is_ready.new.env)) c.args.tid) (Ok n)) c.in-Ok-Push.field-0-is)
    c.push.ensures.sets Moved (λ f kept. Pushes c.in-Some.step c.in-Ok-Push.next (top f) (reason f kept) (answer f kept) refl refl)
    c.from_residual-in_err-push-in-Ok-Push.ensures.0

pub returns-in-Ok-Push-clause-takes : goal.returns-in-Ok-Push-clause-takes
returns-in-Ok-Push-clause-takes g c =
    let top = top_at c.requires.agree g.met.S.Step.lawful g.met.S.Step.sound g.S.Step.first_reason g.S.Step.answer c.args.tid c.in-Some.step Forward
    InProgress c.top.ensures.same c.in_ok-step.ensures.is c.in-Some.is c.requires.status c.in_ok-reason.ensures.looks c.in_ok-reason.ensures.ready Now
    c.in-Now.is in
    let reason = reason_at c.requires.agree g.met.S.Step.lawful g.met.S.Step.sound g.S.Step.first_reason g.S.Step.answer c.args.tid c.in-Some.step
    Forward InProgress c.top.ensures.same c.in_ok-step.ensures.is c.in-Some.is c.requires.status c.in_ok-reason.ensures.looks
    c.in_ok-reason.ensures.ready Now c.in-Now.is in
    let answer = answer_at c.requires.agree g.met.S.Step.lawful g.met.S.Step.sound g.S.Step.first_reason g.S.Step.answer c.args.tid c.in-Some.step
    Forward InProgress c.top.ensures.same c.in_ok-step.ensures.is c.in-Some.is c.requires.status c.in_ok-reason.ensures.looks
    c.in_ok-reason.ensures.ready Now c.in-Now.is
    (g.met.S.Step.same_answer c.in-Some.step c.args.tid c.top.new.env c.is_ready.new.env c.in_ok-reason.ensures.same)
    (λ is_top f kept. c.in-Ok-Push.ensures.answers is_top f kept ∙ (ap Ok c.in-Ok-Push.field-0-is)) in
    turns_here c.requires.agree g.met.S.Step.lawful g.met.S.Step.sound g.S.Step.first_reason g.S.Step.answer c.args.tid c.in-Some.step Forward
    InProgress c.top.ensures.same c.in_ok-step.ensures.is c.in-Some.is c.requires.status c.in_ok-reason.ensures.looks c.in_ok-reason.ensures.ready Now
    c.in-Now.is c.in-Ok-Push.ensures.keeps c.in-Ok-Push.ensures.works (pushed (g.K.Stacks.spelled c.in-Ok-Push.next))
    (pushed (g.S.Step.spelled c.in-Ok-Push.next)) (λ b. ap (λ w. pushed w b) (c.requires.agree.same_words c.in-Ok-Push.next))
    (ap (λ n. next_book g.S.Step.spelled (g.S.Step.meaning.book (picture_now (g.S.Step.state c.is_ready.new.env)) c.args.tid) (Ok n)) c.in-Ok-Push.field-0-is)
    c.push.ensures.sets Moved (λ f kept. Pushes c.in-Some.step c.in-Ok-Push.next (top f) (reason f kept) (answer f kept) refl refl)
    c.in_ok-push-in-Ok-Push.was

pub returns-in-Ok-Push-clause-passes : goal.returns-in-Ok-Push-clause-passes
returns-in-Ok-Push-clause-passes g c =
    Called c.in-Some.step c.is_ready.new.env c.call.new.env
    (subst (λ v. g.S.Step.same v c.is_ready.new.env) c.top.ensures.same c.in_ok-reason.ensures.same) c.in-Ok-Push.ensures.calls
    c.in_ok-push-in-Ok-Push.ensures.beside
    (λ able. c.requires.goes_on.stays_able c.call.new.env c.push.new.env c.in_ok-push-in-Ok-Push.ensures.beside able)

pub returns-in_err-set_status-in-Ok-Done-clause-takes : goal.returns-in_err-set_status-in-Ok-Done-clause-takes
returns-in_err-set_status-in-Ok-Done-clause-takes g c =
    let top = top_at c.requires.agree g.met.S.Step.lawful g.met.S.Step.sound g.S.Step.first_reason g.S.Step.answer c.args.tid c.in-Some.step Forward
    InProgress c.top.ensures.same c.in_ok-step.ensures.is c.in-Some.is c.requires.status c.in_ok-reason.ensures.looks c.in_ok-reason.ensures.ready Now
    c.in-Now.is in
    let reason = reason_at c.requires.agree g.met.S.Step.lawful g.met.S.Step.sound g.S.Step.first_reason g.S.Step.answer c.args.tid c.in-Some.step
    Forward InProgress c.top.ensures.same c.in_ok-step.ensures.is c.in-Some.is c.requires.status c.in_ok-reason.ensures.looks
    c.in_ok-reason.ensures.ready Now c.in-Now.is in
    let answer = answer_at c.requires.agree g.met.S.Step.lawful g.met.S.Step.sound g.S.Step.first_reason g.S.Step.answer c.args.tid c.in-Some.step
    Forward InProgress c.top.ensures.same c.in_ok-step.ensures.is c.in-Some.is c.requires.status c.in_ok-reason.ensures.looks
    c.in_ok-reason.ensures.ready Now c.in-Now.is
    (g.met.S.Step.same_answer c.in-Some.step c.args.tid c.top.new.env c.is_ready.new.env c.in_ok-reason.ensures.same)
    (λ is_top f kept. c.in-Ok-Done.ensures.answers is_top f kept ∙ (ap Ok c.in-Ok-Done.field-0-is)) in
    fails_here c.requires.agree g.met.S.Step.lawful g.met.S.Step.sound g.S.Step.first_reason g.S.Step.answer c.args.tid c.in-Some.step Forward
    InProgress c.top.ensures.same c.in_ok-step.ensures.is c.in-Some.is c.requires.status c.in_ok-reason.ensures.looks c.in_ok-reason.ensures.ready Now
    c.in-Now.is c.in-Ok-Done.ensures.keeps c.in-Ok-Done.ensures.works (with_status Successful None) (with_status Successful None) (λ b. refl)
    (ap (λ n. next_book g.S.Step.spelled (g.S.Step.meaning.book (picture_now (g.S.Step.state c.is_ready.new.env)) c.args.tid) (Ok n)) c.in-Ok-Done.field-0-is)
    c.set_status.ensures.sets Ended (λ f kept. Ends c.in-Some.step (top f) (reason f kept) (answer f kept) refl refl)
    c.from_residual-in_err-set_status-in-Ok-Done.ensures.0

pub returns-in-Ok-Done-clause-takes : goal.returns-in-Ok-Done-clause-takes
returns-in-Ok-Done-clause-takes g c =
    let top = top_at c.requires.agree g.met.S.Step.lawful g.met.S.Step.sound g.S.Step.first_reason g.S.Step.answer c.args.tid c.in-Some.step Forward
    InProgress c.top.ensures.same c.in_ok-step.ensures.is c.in-Some.is c.requires.status c.in_ok-reason.ensures.looks c.in_ok-reason.ensures.ready Now
    c.in-Now.is in
    let reason = reason_at c.requires.agree g.met.S.Step.lawful g.met.S.Step.sound g.S.Step.first_reason g.S.Step.answer c.args.tid c.in-Some.step
    Forward InProgress c.top.ensures.same c.in_ok-step.ensures.is c.in-Some.is c.requires.status c.in_ok-reason.ensures.looks
    c.in_ok-reason.ensures.ready Now c.in-Now.is in
    let answer = answer_at c.requires.agree g.met.S.Step.lawful g.met.S.Step.sound g.S.Step.first_reason g.S.Step.answer c.args.tid c.in-Some.step
    Forward InProgress c.top.ensures.same c.in_ok-step.ensures.is c.in-Some.is c.requires.status c.in_ok-reason.ensures.looks
    c.in_ok-reason.ensures.ready Now c.in-Now.is
    (g.met.S.Step.same_answer c.in-Some.step c.args.tid c.top.new.env c.is_ready.new.env c.in_ok-reason.ensures.same)
    (λ is_top f kept. c.in-Ok-Done.ensures.answers is_top f kept ∙ (ap Ok c.in-Ok-Done.field-0-is)) in
    turns_here c.requires.agree g.met.S.Step.lawful g.met.S.Step.sound g.S.Step.first_reason g.S.Step.answer c.args.tid c.in-Some.step Forward
    InProgress c.top.ensures.same c.in_ok-step.ensures.is c.in-Some.is c.requires.status c.in_ok-reason.ensures.looks c.in_ok-reason.ensures.ready Now
    c.in-Now.is c.in-Ok-Done.ensures.keeps c.in-Ok-Done.ensures.works (with_status Successful None) (with_status Successful None) (λ b. refl)
    (ap (λ n. next_book g.S.Step.spelled (g.S.Step.meaning.book (picture_now (g.S.Step.state c.is_ready.new.env)) c.args.tid) (Ok n)) c.in-Ok-Done.field-0-is)
    c.set_status.ensures.sets Ended (λ f kept. Ends c.in-Some.step (top f) (reason f kept) (answer f kept) refl refl)
    c.in_ok-set_status-in-Ok-Done.was

pub returns-in-Ok-Done-clause-passes : goal.returns-in-Ok-Done-clause-passes
returns-in-Ok-Done-clause-passes g c =
    Called c.in-Some.step c.is_ready.new.env c.call.new.env
    (subst (λ v. g.S.Step.same v c.is_ready.new.env) c.top.ensures.same c.in_ok-reason.ensures.same) c.in-Ok-Done.ensures.calls
    c.in_ok-set_status-in-Ok-Done.ensures.beside
    (λ able. c.requires.goes_on.stays_able c.call.new.env c.set_status.new.env c.in_ok-set_status-in-Ok-Done.ensures.beside able)

pub returns-in_err-set_status-in-Err-Failed-clause-takes : goal.returns-in_err-set_status-in-Err-Failed-clause-takes
returns-in_err-set_status-in-Err-Failed-clause-takes g c =
    let top = top_at c.requires.agree g.met.S.Step.lawful g.met.S.Step.sound g.S.Step.first_reason g.S.Step.answer c.args.tid c.in-Some.step Forward
    InProgress c.top.ensures.same c.in_ok-step.ensures.is c.in-Some.is c.requires.status c.in_ok-reason.ensures.looks c.in_ok-reason.ensures.ready Now
    c.in-Now.is in
    let reason = reason_at c.requires.agree g.met.S.Step.lawful g.met.S.Step.sound g.S.Step.first_reason g.S.Step.answer c.args.tid c.in-Some.step
    Forward InProgress c.top.ensures.same c.in_ok-step.ensures.is c.in-Some.is c.requires.status c.in_ok-reason.ensures.looks
    c.in_ok-reason.ensures.ready Now c.in-Now.is in
    let answer = answer_at c.requires.agree g.met.S.Step.lawful g.met.S.Step.sound g.S.Step.first_reason g.S.Step.answer c.args.tid c.in-Some.step
    Forward InProgress c.top.ensures.same c.in_ok-step.ensures.is c.in-Some.is c.requires.status c.in_ok-reason.ensures.looks
    c.in_ok-reason.ensures.ready Now c.in-Now.is
    (g.met.S.Step.same_answer c.in-Some.step c.args.tid c.top.new.env c.is_ready.new.env c.in_ok-reason.ensures.same)
    (λ is_top f kept. subst (λ n. Answers (g.S.Step.answer c.in-Some.step c.args.tid c.is_ready.new.env) (Err n)) c.in-Err-Failed.field-0-is (c.in-Err-Failed.ensures.answers is_top f kept)) in
    fails_here c.requires.agree g.met.S.Step.lawful g.met.S.Step.sound g.S.Step.first_reason g.S.Step.answer c.args.tid c.in-Some.step Forward
    InProgress c.top.ensures.same c.in_ok-step.ensures.is c.in-Some.is c.requires.status c.in_ok-reason.ensures.looks c.in_ok-reason.ensures.ready Now
    c.in-Now.is c.in-Err-Failed.ensures.keeps c.in-Err-Failed.ensures.works (with_status FailedInProgress (Some c.in-Err-Failed.cause))
    (with_status FailedInProgress (Some c.in-Err-Failed.cause)) (λ b. refl)
    (ap (λ n. next_book g.S.Step.spelled (g.S.Step.meaning.book (picture_now (g.S.Step.state c.is_ready.new.env)) c.args.tid) (Err n)) c.in-Err-Failed.field-0-is)
    c.set_status-in-Err-Failed.ensures.sets (Broken c.in-Err-Failed.cause)
    (λ f kept. Breaks c.in-Some.step c.in-Err-Failed.cause (top f) (reason f kept) (answer f kept) refl refl)
    c.from_residual-in_err-set_status-in-Err-Failed.ensures.0

pub returns-in-Err-Failed-clause-takes : goal.returns-in-Err-Failed-clause-takes
returns-in-Err-Failed-clause-takes g c =
    let top = top_at c.requires.agree g.met.S.Step.lawful g.met.S.Step.sound g.S.Step.first_reason g.S.Step.answer c.args.tid c.in-Some.step Forward
    InProgress c.top.ensures.same c.in_ok-step.ensures.is c.in-Some.is c.requires.status c.in_ok-reason.ensures.looks c.in_ok-reason.ensures.ready Now
    c.in-Now.is in
    let reason = reason_at c.requires.agree g.met.S.Step.lawful g.met.S.Step.sound g.S.Step.first_reason g.S.Step.answer c.args.tid c.in-Some.step
    Forward InProgress c.top.ensures.same c.in_ok-step.ensures.is c.in-Some.is c.requires.status c.in_ok-reason.ensures.looks
    c.in_ok-reason.ensures.ready Now c.in-Now.is in
    let answer = answer_at c.requires.agree g.met.S.Step.lawful g.met.S.Step.sound g.S.Step.first_reason g.S.Step.answer c.args.tid c.in-Some.step
    Forward InProgress c.top.ensures.same c.in_ok-step.ensures.is c.in-Some.is c.requires.status c.in_ok-reason.ensures.looks
    c.in_ok-reason.ensures.ready Now c.in-Now.is
    (g.met.S.Step.same_answer c.in-Some.step c.args.tid c.top.new.env c.is_ready.new.env c.in_ok-reason.ensures.same)
    (λ is_top f kept. subst (λ n. Answers (g.S.Step.answer c.in-Some.step c.args.tid c.is_ready.new.env) (Err n)) c.in-Err-Failed.field-0-is (c.in-Err-Failed.ensures.answers is_top f kept)) in
    turns_here c.requires.agree g.met.S.Step.lawful g.met.S.Step.sound g.S.Step.first_reason g.S.Step.answer c.args.tid c.in-Some.step Forward
    InProgress c.top.ensures.same c.in_ok-step.ensures.is c.in-Some.is c.requires.status c.in_ok-reason.ensures.looks c.in_ok-reason.ensures.ready Now
    c.in-Now.is c.in-Err-Failed.ensures.keeps c.in-Err-Failed.ensures.works (with_status FailedInProgress (Some c.in-Err-Failed.cause))
    (with_status FailedInProgress (Some c.in-Err-Failed.cause)) (λ b. refl)
    (ap (λ n. next_book g.S.Step.spelled (g.S.Step.meaning.book (picture_now (g.S.Step.state c.is_ready.new.env)) c.args.tid) (Err n)) c.in-Err-Failed.field-0-is)
    c.set_status-in-Err-Failed.ensures.sets (Broken c.in-Err-Failed.cause)
    (λ f kept. Breaks c.in-Some.step c.in-Err-Failed.cause (top f) (reason f kept) (answer f kept) refl refl) c.in_ok-set_status-in-Err-Failed.was

pub returns-in-Err-Failed-clause-passes : goal.returns-in-Err-Failed-clause-passes
returns-in-Err-Failed-clause-passes g c =
    Called c.in-Some.step c.is_ready.new.env c.call.new.env
    (subst (λ v. g.S.Step.same v c.is_ready.new.env) c.top.ensures.same c.in_ok-reason.ensures.same)
    (failed_did g.S.Step.spelled _ c.in-Err-Failed.cause c.in-Err-Failed.field-0-is c.in-Err-Failed.ensures.calls)
    c.in_ok-set_status-in-Err-Failed.ensures.beside
    (λ able. c.requires.goes_on.stays_able c.call.new.env c.set_status-in-Err-Failed.new.env c.in_ok-set_status-in-Err-Failed.ensures.beside able)

pub returns-clause-takes : goal.returns-clause-takes
returns-clause-takes g c =
    stops_here c.requires.agree g.met.S.Step.lawful g.met.S.Step.sound g.S.Step.first_reason g.S.Step.answer c.args.tid c.in-Some.step Forward
    InProgress c.top.ensures.same c.in_ok-step.ensures.is c.in-Some.is c.requires.status c.in_ok-reason.ensures.looks c.in_ok-reason.ensures.ready Now
    c.in-Now.is c.in-Err-Stop.ensures.keeps c.in-Err-Stop.ensures.works (search rules)

pub returns-in_err-step-clause-stops : goal.returns-in_err-step-clause-stops
returns-in_err-step-clause-stops g c =
    let p = err_from_is_err_and c.from_residual.result c.from_residual.ensures.1 in rw (p.1, p.2) (By_stacks c.args.env.now (Nowhere refl) c.in_err-step.ensures.stops)

pub returns-in_err-reason-clause-stops : goal.returns-in_err-reason-clause-stops
returns-in_err-reason-clause-stops g c =
    let p = err_from_is_err_and c.from_residual-in_err-reason.result c.from_residual-in_err-reason.ensures.1 in
    rw (p.1, p.2) (By_step c.top.new.env (Nowhere c.top.ensures.same) c.in_err-reason.ensures.stops)

pub returns-in_err-push-in-Ok-Push-clause-stops : goal.returns-in_err-push-in-Ok-Push-clause-stops
returns-in_err-push-in-Ok-Push-clause-stops g c =
    let p = err_from_is_err_and c.from_residual-in_err-push-in-Ok-Push.result c.from_residual-in_err-push-in-Ok-Push.ensures.1 in
    rw (p.1, p.2)
    (By_stacks c.call.new.env (Has_called c.in-Some.step c.is_ready.new.env (subst (λ v. g.S.Step.same v c.is_ready.new.env) c.top.ensures.same c.in_ok-reason.ensures.same) c.in-Ok-Push.ensures.calls) c.in_err-push-in-Ok-Push.ensures.stops)

pub returns-in_err-set_status-in-Ok-Done-clause-stops : goal.returns-in_err-set_status-in-Ok-Done-clause-stops
returns-in_err-set_status-in-Ok-Done-clause-stops g c =
    let p = err_from_is_err_and c.from_residual-in_err-set_status-in-Ok-Done.result c.from_residual-in_err-set_status-in-Ok-Done.ensures.1 in
    rw (p.1, p.2)
    (By_stacks c.call.new.env (Has_called c.in-Some.step c.is_ready.new.env (subst (λ v. g.S.Step.same v c.is_ready.new.env) c.top.ensures.same c.in_ok-reason.ensures.same) c.in-Ok-Done.ensures.calls) c.in_err-set_status-in-Ok-Done.ensures.stops)

pub returns-in_err-set_status-in-Err-Failed-clause-stops : goal.returns-in_err-set_status-in-Err-Failed-clause-stops
returns-in_err-set_status-in-Err-Failed-clause-stops g c =
    let p = err_from_is_err_and c.from_residual-in_err-set_status-in-Err-Failed.result c.from_residual-in_err-set_status-in-Err-Failed.ensures.1 in
    rw (p.1, p.2)
    (By_stacks c.call.new.env (Has_called c.in-Some.step c.is_ready.new.env (subst (λ v. g.S.Step.same v c.is_ready.new.env) c.top.ensures.same c.in_ok-reason.ensures.same) (failed_did g.S.Step.spelled _ c.in-Err-Failed.cause c.in-Err-Failed.field-0-is c.in-Err-Failed.ensures.calls)) c.in_err-set_status-in-Err-Failed.ensures.stops)

pub returns-clause-stops : goal.returns-clause-stops
returns-clause-stops g c =
    By_step c.is_ready.new.env (Asked (subst (λ v. g.S.Step.same v c.is_ready.new.env) c.top.ensures.same c.in_ok-reason.ensures.same))
    (stop_is g.S.Step.spelled _ c.in-Err-Stop.stop (λ stop. g.S.Step.stops stop c.is_ready.new.env c.call.new.env) c.in-Err-Stop.field-0-is c.in-Err-Stop.ensures.stops)
