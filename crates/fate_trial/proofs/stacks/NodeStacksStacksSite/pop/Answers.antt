use Rattle.std.proofs.lemmas.Result.{IfErr-weaker}
use Rattle.fate_trial.specs.Stored.{PopChanges}
use Rattle.fate_trial.specs.Stops.{SiteStops, StackStops, At_pop, RefusesPop}
use Rattle.fate_trial.proofs.stacks.NodeStacksStacksSite.pop.Goals as goal

pub returns-clause-stops : goal.returns-clause-stops
returns-clause-stops g c =
    IfErr-weaker c.pop_step.result (λ stop. SiteStops g.H.Host.state (PopChanges c.args.env.now.nodes.nodes c.args.tid) (RefusesPop c.args.env.now.nodes.nodes c.args.tid) stop c.args.env.now c.pop_step.new.env)
    (λ stop. StackStops g.H.Host.state g.S.StepText.text g.S.StepText.text_suits stop c.args.env.now c.pop_step.new.env) (λ stop why. At_pop c.args.tid why) c.pop_step.ensures.stops
