use Rattle.std.proofs.Common.{◌≡◌, inl, inr, ◌≤◌, ◌+◌, refl, sym, subst, arith}
use Rattle.std.proofs.lemmas.Result.{err_from_is_err_and, IfErr-weaker}
use Rattle.host_model.proofs.CallsLemmas.{keeps-then, still_honest, on_ok_of}
use Rattle.host_model.specs.Kinds.{IsOfScript}
use Rattle.script_source.proofs.HearingLemmas.{listens-refl}
use Rattle.host_model.specs.declared.fault.Stop.TheVariants.{NoMemory}
use Rattle.shell.proofs.ScriptLemmas.{served_start}
use Rattle.shell.proofs.ReadableLemmas.{stays_refl}
use Rattle.shell.proofs.LastCallLemmas.{heard_call, not_full, hears_in_room, refuses_in_room}
use Rattle.shell.proofs.StepLemmas.{served_more, sure_after, heard_rests, heard_readable, line_readable}
use Rattle.shell.proofs.EndLemmas.{fronts, all_served, stopped_hearing, stopped_line, line_fronts, refusal_ended, refusal_fronts, refusal_readable, refusal_counts, over_long, over_many}
use Rattle.shell.proofs.running.serve.Goals as goal

pub returns-in_err-script-clause-ended : goal.returns-in_err-script-clause-ended
returns-in_err-script-clause-ended g c =
    let p = err_from_is_err_and c.from_residual.result c.from_residual.ensures.1 in
    let sound = g.met.H.Host.sound c.args.host.now in
    rw (p.1, p.2) (λ f. rw c.requires.lines (stopped_hearing sound sound (served_start c.args.store.now _ sound c.requires.running c.requires.doubt c.requires.history c.requires.sure) (listens-refl _) NoMemory tt (inr (refl, refl)) f))

pub returns-in_err-script-clause-readable : goal.returns-in_err-script-clause-readable
returns-in_err-script-clause-readable g c = stays_refl (g.met.H.Host.sound c.args.host.now)

pub returns-in_err-next_line-clause-ended : goal.returns-in_err-next_line-clause-ended
returns-in_err-next_line-clause-ended g c =
    let p = err_from_is_err_and c.from_residual-in_err-next_line.result c.from_residual-in_err-next_line.ensures.1 in
    rw (p.1, p.2) (λ f. stopped_hearing (g.met.H.Host.sound c.args.host.now) (g.met.H.Host.sound c.loop-number.host) c.loop-number.invariant.served c.in_err-next_line.ensures.listens _ (c.in_err-next_line.ensures.stops c.loop-number.invariant.hearing) (inl (heard_call g.H.Host.state _ _ _ c.loop-number.invariant.served.call (c.in_err-next_line.ensures.last c.loop-number.invariant.hearing))) f)

pub returns-in_err-next_line-clause-crash : goal.returns-in_err-next_line-clause-crash
returns-in_err-next_line-clause-crash g c = fronts (g.met.H.Host.sound c.args.host.now) (g.met.H.Host.sound c.loop-number.host) c.loop-number.invariant.served c.in_err-next_line.ensures.listens

pub returns-in-End-clause-ended : goal.returns-in-End-clause-ended
returns-in-End-clause-ended g c = all_served (g.met.H.Host.sound c.args.host.now) (g.met.H.Host.sound c.loop-number.host) c.loop-number.invariant.served c.in_ok-next_line.ensures.listens _ (rw c.in-End.is at c.in_ok-next_line.ensures.takes)

pub returns-in-End-clause-crash : goal.returns-in-End-clause-crash
returns-in-End-clause-crash g c = fronts (g.met.H.Host.sound c.args.host.now) (g.met.H.Host.sound c.loop-number.host) c.loop-number.invariant.served c.in_ok-next_line.ensures.listens

pub returns-in-TooLong-clause-ended : goal.returns-in-TooLong-clause-ended
returns-in-TooLong-clause-ended g c =
    let sound = g.met.H.Host.sound c.args.host.now in
    let now = g.met.H.Host.sound c.loop-number.host in
    let served = c.loop-number.invariant.served in
    let listens = c.in_ok-next_line.ensures.listens in
    refusal_ended sound now served listens (g.met.H.Host.sound c.next_line.new.host) _ c.loop-number.invariant.next (over_long sound now served listens (rw c.in-TooLong.is at c.in_ok-next_line.ensures.takes)) c.refuse_line.ensures
    (heard_call g.H.Host.state _ _ _ served.call (c.in_ok-next_line.ensures.last c.loop-number.invariant.hearing))

pub returns-in-TooLong-clause-crash : goal.returns-in-TooLong-clause-crash
returns-in-TooLong-clause-crash g c =
    let sound = g.met.H.Host.sound c.args.host.now in
    let now = g.met.H.Host.sound c.loop-number.host in
    let served = c.loop-number.invariant.served in
    let listens = c.in_ok-next_line.ensures.listens in
    refusal_fronts sound now served listens (g.met.H.Host.sound c.next_line.new.host) _ c.loop-number.invariant.next (over_long sound now served listens (rw c.in-TooLong.is at c.in_ok-next_line.ensures.takes)) c.refuse_line.ensures

pub serve_line-requires-clause-sure : goal.serve_line-requires-clause-sure
serve_line-requires-clause-sure g c = sure_after c.in_ok-next_line.ensures.listens c.loop-number.invariant.served.sure

pub returns-in_err-serve_line-in-Line-clause-ended : goal.returns-in_err-serve_line-in-Line-clause-ended
returns-in_err-serve_line-in-Line-clause-ended g c =
    let p = err_from_is_err_and c.from_residual-in_err-serve_line-in-Line.result c.from_residual-in_err-serve_line-in-Line.ensures.1 in
    let takes = rw (c.in-Line.is, ← c.deref.ensures.value) at c.in_ok-next_line.ensures.takes in
    let few : c.loop-number.lines + 1 ≤ 100000 = omega (arith, c.loop-number-test.true, c.loop-number.invariant.next) in
    let call = heard_call g.H.Host.state _ _ _ c.loop-number.invariant.served.call (c.in_ok-next_line.ensures.last c.loop-number.invariant.hearing) in
    rw (p.1, p.2) (λ f. stopped_line (g.met.H.Host.sound c.args.host.now) (g.met.H.Host.sound c.loop-number.host) c.loop-number.invariant.served c.in_ok-next_line.ensures.listens (g.met.H.Host.sound c.next_line.new.host) takes _ c.loop-number.invariant.next few _ c.in_err-serve_line-in-Line.ensures f call)

pub returns-in_err-serve_line-in-Line-clause-crash : goal.returns-in_err-serve_line-in-Line-clause-crash
returns-in_err-serve_line-in-Line-clause-crash g c =
    let takes = rw (c.in-Line.is, ← c.deref.ensures.value) at c.in_ok-next_line.ensures.takes in
    let few : c.loop-number.lines + 1 ≤ 100000 = omega (arith, c.loop-number-test.true, c.loop-number.invariant.next) in
    line_fronts (g.met.H.Host.sound c.args.host.now) (g.met.H.Host.sound c.loop-number.host) c.loop-number.invariant.served c.in_ok-next_line.ensures.listens (g.met.H.Host.sound c.next_line.new.host) takes _ c.loop-number.invariant.next few _ c.in_err-serve_line-in-Line.ensures

pub loop-number-preserved : goal.loop-number-preserved
loop-number-preserved g c =
    let takes = rw (c.in-Line.is, ← c.deref.ensures.value) at c.in_ok-next_line.ensures.takes in
    let few : c.loop-number.lines + 1 ≤ 100000 = omega (arith, c.loop-number-test.true, c.loop-number.invariant.next) in
    let call = heard_call g.H.Host.state _ _ _ c.loop-number.invariant.served.call (c.in_ok-next_line.ensures.last c.loop-number.invariant.hearing) in
    record {
      next = refl;
      hearing = c.in_ok-next_line.ensures.running;
      served = rw c.loop-number.invariant.next (served_more (g.met.H.Host.sound c.args.host.now) (g.met.H.Host.sound c.loop-number.host) c.loop-number.invariant.served c.in_ok-next_line.ensures.listens (g.met.H.Host.sound c.next_line.new.host) takes _ c.loop-number.invariant.next few call c.in_ok-serve_line-in-Line.ensures);
    }

pub returns-in_err-next_line-2-clause-ended : goal.returns-in_err-next_line-2-clause-ended
returns-in_err-next_line-2-clause-ended g c =
    let p = err_from_is_err_and c.from_residual-in_err-next_line-2.result c.from_residual-in_err-next_line-2.ensures.1 in
    rw (p.1, p.2) (λ f. stopped_hearing (g.met.H.Host.sound c.args.host.now) (g.met.H.Host.sound c.loop-number.host) c.loop-number.invariant.served c.in_err-next_line-2.ensures.listens _ (c.in_err-next_line-2.ensures.stops c.loop-number.invariant.hearing) (inl (heard_call g.H.Host.state _ _ _ c.loop-number.invariant.served.call (c.in_err-next_line-2.ensures.last c.loop-number.invariant.hearing))) f)

pub returns-in_err-next_line-2-clause-crash : goal.returns-in_err-next_line-2-clause-crash
returns-in_err-next_line-2-clause-crash g c = fronts (g.met.H.Host.sound c.args.host.now) (g.met.H.Host.sound c.loop-number.host) c.loop-number.invariant.served c.in_err-next_line-2.ensures.listens

pub returns-in-End-2-clause-ended : goal.returns-in-End-2-clause-ended
returns-in-End-2-clause-ended g c = all_served (g.met.H.Host.sound c.args.host.now) (g.met.H.Host.sound c.loop-number.host) c.loop-number.invariant.served c.in_ok-next_line-2.ensures.listens _ (rw c.in-End-2.is at c.in_ok-next_line-2.ensures.takes)

pub returns-in-End-2-clause-crash : goal.returns-in-End-2-clause-crash
returns-in-End-2-clause-crash g c = fronts (g.met.H.Host.sound c.args.host.now) (g.met.H.Host.sound c.loop-number.host) c.loop-number.invariant.served c.in_ok-next_line-2.ensures.listens

pub returns : goal.returns
returns g c =
    let sound = g.met.H.Host.sound c.args.host.now in
    let now = g.met.H.Host.sound c.loop-number.host in
    let mid = g.met.H.Host.sound c.next_line-2.new.host in
    let served = c.loop-number.invariant.served in
    let listens = c.in_ok-next_line-2.ensures.listens in
    let number_is : 100001 ≡ c.loop-number.lines + 1 = omega (arith, c.loop-number-test.false, c.loop-number.auto.number-end, c.loop-number.invariant.next) in
    let many : 100000 ≤ c.loop-number.lines = omega (arith, number_is) in
    let over = over_many sound now served c.in_ok-next_line-2.field-0 _ listens many c.in_default.not-End c.in_ok-next_line-2.ensures.takes in
    let refuses = c.refuse_line-in_default.ensures in
    record {
      keeps = keeps-then served.keeps (keeps-then listens.keeps refuses.keeps);
      ended = refusal_ended sound now served listens mid 100001 number_is over refuses
          (heard_call g.H.Host.state _ _ _ served.call (c.in_ok-next_line-2.ensures.last c.loop-number.invariant.hearing));
      full = refuses_in_room c.refuse_line-in_default.result _ refuses.why;
      stops = IfErr-weaker c.refuse_line-in_default.result _ _ (refusal_counts sound now served listens mid 100001 number_is over refuses) refuses.stops;
      crash = refusal_fronts sound now served listens mid 100001 number_is over refuses;
      readable = refusal_readable sound now served listens mid 100001 number_is over refuses;
      rests = λ h rests. on_ok_of c.refuse_line-in_default.result (refuses.rests (still_honest listens.keeps (still_honest served.keeps h)) (heard_rests sound now served listens h rests));
    }

pub returns-in_err-next_line-clause-readable : goal.returns-in_err-next_line-clause-readable
returns-in_err-next_line-clause-readable g c = heard_readable (g.met.H.Host.sound c.args.host.now) (g.met.H.Host.sound c.loop-number.host) c.loop-number.invariant.served c.in_err-next_line.ensures.listens

pub returns-in-End-clause-readable : goal.returns-in-End-clause-readable
returns-in-End-clause-readable g c = heard_readable (g.met.H.Host.sound c.args.host.now) (g.met.H.Host.sound c.loop-number.host) c.loop-number.invariant.served c.in_ok-next_line.ensures.listens

pub returns-in_err-next_line-2-clause-readable : goal.returns-in_err-next_line-2-clause-readable
returns-in_err-next_line-2-clause-readable g c = heard_readable (g.met.H.Host.sound c.args.host.now) (g.met.H.Host.sound c.loop-number.host) c.loop-number.invariant.served c.in_err-next_line-2.ensures.listens

pub returns-in-End-2-clause-readable : goal.returns-in-End-2-clause-readable
returns-in-End-2-clause-readable g c = heard_readable (g.met.H.Host.sound c.args.host.now) (g.met.H.Host.sound c.loop-number.host) c.loop-number.invariant.served c.in_ok-next_line-2.ensures.listens

pub returns-in-TooLong-clause-readable : goal.returns-in-TooLong-clause-readable
returns-in-TooLong-clause-readable g c =
    let sound = g.met.H.Host.sound c.args.host.now in
    let now = g.met.H.Host.sound c.loop-number.host in
    let served = c.loop-number.invariant.served in
    let listens = c.in_ok-next_line.ensures.listens in
    refusal_readable sound now served listens (g.met.H.Host.sound c.next_line.new.host) _ c.loop-number.invariant.next (over_long sound now served listens (rw c.in-TooLong.is at c.in_ok-next_line.ensures.takes)) c.refuse_line.ensures

pub returns-in_err-serve_line-in-Line-clause-readable : goal.returns-in_err-serve_line-in-Line-clause-readable
returns-in_err-serve_line-in-Line-clause-readable g c =
    let takes = rw (c.in-Line.is, ← c.deref.ensures.value) at c.in_ok-next_line.ensures.takes in
    let few : c.loop-number.lines + 1 ≤ 100000 = omega (arith, c.loop-number-test.true, c.loop-number.invariant.next) in
    line_readable (g.met.H.Host.sound c.args.host.now) (g.met.H.Host.sound c.loop-number.host) c.loop-number.invariant.served c.in_ok-next_line.ensures.listens (g.met.H.Host.sound c.next_line.new.host) takes _ c.loop-number.invariant.next few c.in_err-serve_line-in-Line.ensures

pub returns-in_err-script-clause-crash : goal.returns-in_err-script-clause-crash
returns-in_err-script-clause-crash g c =
    let sound = g.met.H.Host.sound c.args.host.now in
    fronts sound sound (served_start c.args.store.now _ sound c.requires.running c.requires.doubt c.requires.history c.requires.sure) (listens-refl _)

pub loop-number-init : goal.loop-number-init
loop-number-init g c =
    let sound = g.met.H.Host.sound c.args.host.now in
    record {
      next = omega (arith, c.requires.lines);
      hearing = rw c.in_ok-script.ensures refl;
      served = rw (c.requires.lines, c.in_ok-script.ensures) (served_start c.args.store.now _ sound c.requires.running c.requires.doubt c.requires.history c.requires.sure);
    }

pub returns-in_err-script-clause-full : goal.returns-in_err-script-clause-full
returns-in_err-script-clause-full g c =
    let p = err_from_is_err_and c.from_residual.result c.from_residual.ensures.1 in
    rw (p.1, p.2) (λ is. absurd (not_full is))

pub returns-in_err-next_line-clause-full : goal.returns-in_err-next_line-clause-full
returns-in_err-next_line-clause-full g c =
    let p = err_from_is_err_and c.from_residual-in_err-next_line.result c.from_residual-in_err-next_line.ensures.1 in
    rw (p.1, p.2) (λ is. absurd (hears_in_room _ _ _ (c.in_err-next_line.ensures.stops c.loop-number.invariant.hearing) is))

pub returns-in_err-next_line-2-clause-full : goal.returns-in_err-next_line-2-clause-full
returns-in_err-next_line-2-clause-full g c =
    let p = err_from_is_err_and c.from_residual-in_err-next_line-2.result c.from_residual-in_err-next_line-2.ensures.1 in
    rw (p.1, p.2) (λ is. absurd (hears_in_room _ _ _ (c.in_err-next_line-2.ensures.stops c.loop-number.invariant.hearing) is))

pub returns-in_err-serve_line-in-Line-clause-full : goal.returns-in_err-serve_line-in-Line-clause-full
returns-in_err-serve_line-in-Line-clause-full g c =
    let p = err_from_is_err_and c.from_residual-in_err-serve_line-in-Line.result c.from_residual-in_err-serve_line-in-Line.ensures.1 in
    let call = heard_call g.H.Host.state _ _ _ c.loop-number.invariant.served.call (c.in_ok-next_line.ensures.last c.loop-number.invariant.hearing) in
    rw (p.1, p.2) (λ is. subst IsOfScript (sym (c.in_err-serve_line-in-Line.ensures.full is).last) call)

pub returns-in-TooLong-clause-full : goal.returns-in-TooLong-clause-full
returns-in-TooLong-clause-full g c = refuses_in_room c.refuse_line.result _ c.refuse_line.ensures.why

pub returns-in-TooLong-clause-rests : goal.returns-in-TooLong-clause-rests
returns-in-TooLong-clause-rests g c = λ h rests.
    let sound = g.met.H.Host.sound c.args.host.now in
    let now = g.met.H.Host.sound c.loop-number.host in
    let served = c.loop-number.invariant.served in
    let listens = c.in_ok-next_line.ensures.listens in
    on_ok_of c.refuse_line.result (c.refuse_line.ensures.rests (still_honest listens.keeps (still_honest served.keeps h)) (heard_rests sound now served listens h rests))
