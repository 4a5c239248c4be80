use Rattle.std.proofs.lemmas.Result.{IfErr-weaker}
use Rattle.fate_trial.specs.Stored.{StatusChanges}
use Rattle.fate_trial.specs.Stops.{SiteStops, StackStops, At_set, RefusesStatus}
use Rattle.fate_trial.proofs.stacks.NodeStacksStacksSite.set_status.Goals as goal

pub returns-clause-stops : goal.returns-clause-stops
returns-clause-stops g c =
    IfErr-weaker c.change_status.result (λ stop. SiteStops g.H.Host.state (StatusChanges c.args.env.now.nodes.nodes c.args.tid c.args.status c.args.cause) (RefusesStatus c.args.env.now.nodes.nodes c.args.tid) stop c.args.env.now c.change_status.new.env)
    (λ stop. StackStops g.H.Host.state g.S.StepText.text g.S.StepText.text_suits stop c.args.env.now c.change_status.new.env) (λ stop why. At_set c.args.tid c.args.status c.args.cause why) c.change_status.ensures.stops
