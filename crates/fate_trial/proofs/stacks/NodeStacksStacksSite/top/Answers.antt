use Rattle.std.proofs.Common.{sym, subst}
use Rattle.std.specs.Prelude.{IfOk}
use Rattle.fate_runner.specs.Works.{IsTopOf}
use Rattle.fate_trial.specs.Stored.{book_of}
use Rattle.std.proofs.lemmas.Result.{IfErr-weaker}
use Rattle.fate_trial.specs.Stops.{SiteStops, StackStops, At_top, RefusesTop, none}
use Rattle.fate_trial.proofs.SiteLemmas.{site_nodes}
use Rattle.fate_trial.proofs.stacks.NodeStacksStacksSite.top.Goals as goal

pub returns-clause-is : goal.returns-clause-is
returns-clause-is g c =
    λ f. subst (λ n. IfOk c.top_step.result (λ found. IsTopOf g.S.StepText.text g.S.StepText.text_suits (book_of n c.args.tid) found)) (sym (site_nodes g.H.Host.state c.args.env.now c.requires c.in_ok-going.ensures.runs f)) c.top_step.ensures.is

pub returns-clause-stops : goal.returns-clause-stops
returns-clause-stops g c =
    IfErr-weaker c.top_step.result (λ stop. SiteStops g.H.Host.state none (RefusesTop g.S.StepText.text g.S.StepText.text_suits (book_of c.args.env.now.nodes.nodes c.args.tid)) stop c.args.env.now c.args.env.now)
    (λ stop. StackStops g.H.Host.state g.S.StepText.text g.S.StepText.text_suits stop c.args.env.now c.args.env.now) (λ stop why. At_top c.args.tid why) c.top_step.ensures.stops
