use Rattle.std.proofs.Common.{◌∙◌}
use Rattle.std.proofs.lemmas.Result.{err_from_is_err_and}
use Rattle.shell.proofs.LineLemmas.{does_stop}
use Rattle.shell.proofs.ServeLemmas.{stops_first, serves_blank, unspelled, serves_all, unsaid, at_line}
use Rattle.shell.proofs.serving.serve_line.Goals as goal

pub returns-in_err-answer : goal.returns-in_err-answer
returns-in_err-answer g c =
    let p = err_from_is_err_and c.from_residual-in_err-answer.result c.from_residual-in_err-answer.ensures.1 in
    rw (p.1, p.2) (at_line c.in_ok-line.ensures (stops_first _ _ _ _ _ _ (Unit {0}) _ c.in_err-answer.ensures))

pub returns-in_err-reply : goal.returns-in_err-reply
returns-in_err-reply g c =
    let p = err_from_is_err_and c.from_residual-in_err-reply.result c.from_residual-in_err-reply.ensures.1 in
    rw (p.1, p.2) (at_line c.in_ok-line.ensures (unspelled _ _ _ _ _ _ c.in-Some.answer (rw c.in-Some.is at c.in_ok-answer.ensures) (Unit {0})))

pub returns-in_err-say : goal.returns-in_err-say
returns-in_err-say g c =
    let p = err_from_is_err_and c.from_residual-in_err-say.result c.from_residual-in_err-say.ensures.1 in
    rw (p.1, p.2) (at_line c.in_ok-line.ensures (unsaid _ _ _ _ _ _ c.in-Some.answer (rw c.in-Some.is at c.in_ok-answer.ensures) _ (c.deref.ensures.value ∙ c.in_ok-reply.ensures) _ (g.met.H.Host.sound c.args.host.now) (g.met.H.Host.sound c.answer.new.host) _ c.in_err-say.ensures))

pub returns : goal.returns
returns g c =
    at_line c.in_ok-line.ensures (serves_all _ _ _ _ _ _ c.in-Some.answer (rw c.in-Some.is at c.in_ok-answer.ensures) _ (c.deref.ensures.value ∙ c.in_ok-reply.ensures) _ (g.met.H.Host.sound c.args.host.now) (g.met.H.Host.sound c.answer.new.host) _ c.in_ok-say.ensures)

pub returns-in_err-line : goal.returns-in_err-line
returns-in_err-line g c =
    let p = err_from_is_err_and c.from_residual.result c.from_residual.ensures.1 in
    rw (p.1, p.2) (stops_first _ _ _ _ _ _ (Unit {0}) _ (does_stop _ _ _ _ (g.met.H.Host.sound c.args.host.now) c.requires.sure c.requires.doubt))

pub returns-in_default : goal.returns-in_default
returns-in_default g c = at_line c.in_ok-line.ensures (serves_blank _ _ _ _ _ _ _ (rw c.in_default.is at c.in_ok-answer.ensures))
