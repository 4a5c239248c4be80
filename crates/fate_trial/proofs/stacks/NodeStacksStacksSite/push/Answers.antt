use Rattle.std.proofs.Common.{subst}
use Rattle.std.specs.Prelude.{IfErr}
use Rattle.std.proofs.lemmas.Result.{IfErr-weaker}
use Rattle.fate_trial.specs.Stored.{PushChanges}
use Rattle.fate_trial.specs.Stops.{SiteStops, StackStops, At_push, RefusesPush}
use Rattle.fate_trial.proofs.stacks.NodeStacksStacksSite.push.Goals as goal

pub returns-clause-stops : goal.returns-clause-stops
returns-clause-stops g c =
    IfErr-weaker c.push_words.result (λ stop. SiteStops g.H.Host.state (PushChanges c.args.env.now.nodes.nodes c.args.tid (g.S.StepText.text c.args.step.now)) (RefusesPush c.args.env.now.nodes.nodes c.args.tid (g.S.StepText.text c.args.step.now)) stop c.args.env.now c.push_words.new.env)
    (λ stop. StackStops g.H.Host.state g.S.StepText.text g.S.StepText.text_suits stop c.args.env.now c.push_words.new.env) (λ stop why. At_push c.args.tid c.args.step.now why)
    (subst (λ w. IfErr c.push_words.result (λ stop. SiteStops g.H.Host.state (PushChanges c.args.env.now.nodes.nodes c.args.tid w) (RefusesPush c.args.env.now.nodes.nodes c.args.tid w) stop c.args.env.now c.push_words.new.env)) c.in_ok-words.ensures c.push_words.ensures.stops)
