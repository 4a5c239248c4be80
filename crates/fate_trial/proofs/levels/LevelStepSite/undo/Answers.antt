use Rattle.std.proofs.Common.{◌<◌, ◌^◌, inl, inr, refl, arith}
use Rattle.std.proofs.lemmas.Result.{IfErr-weaker}
use Rattle.fate_trial.specs.declared.layout.Slot.TheVariants.{Walls, Roof}
use Rattle.fate_trial.specs.Towers.{TakeChanges}
use Rattle.fate_trial.specs.Stops.{SiteStops, StepStops, Taking, never}
use Rattle.fate_trial.proofs.WorkLemmas.{raise_undone, cover_undone}
use Rattle.fate_trial.proofs.levels.LevelStepSite.undo.Goals as goal

pub returns-in-Raise-clause-works : goal.returns-in-Raise-clause-works
returns-in-Raise-clause-works g c = λ top. let small : c.args.tid < 2 ^ 64 = omega arith in raise_undone c.args.tid small (g.met.H.Host.sound c.args.env.now.host) c.args.self.now top c.in-Raise.is c.take.result c.take.ensures.acts

pub returns-in-Cover-clause-works : goal.returns-in-Cover-clause-works
returns-in-Cover-clause-works g c = λ top. let small : c.args.tid < 2 ^ 64 = omega arith in cover_undone c.args.tid small (g.met.H.Host.sound c.args.env.now.host) c.args.self.now top c.in-Cover.is c.take-in-Cover.result c.take-in-Cover.ensures.acts

pub returns-in-Raise-clause-stops : goal.returns-in-Raise-clause-stops
returns-in-Raise-clause-stops g c =
    IfErr-weaker c.take.result (λ stop. SiteStops g.H.Host.state (TakeChanges c.args.env.now.nodes.nodes Walls c.args.tid) never stop c.args.env.now c.take.new.env)
    (λ stop. StepStops g.H.Host.state stop c.args.env.now c.take.new.env) (λ stop why. Taking Walls c.args.tid (inl refl) why) c.take.ensures.stops

pub returns-in-Raise-clause-dead : goal.returns-in-Raise-clause-dead
returns-in-Raise-clause-dead g c = λ stop dead. (c.take.ensures.dead stop dead).1

pub returns-in-Cover-clause-stops : goal.returns-in-Cover-clause-stops
returns-in-Cover-clause-stops g c =
    IfErr-weaker c.take-in-Cover.result (λ stop. SiteStops g.H.Host.state (TakeChanges c.args.env.now.nodes.nodes Roof c.args.tid) never stop c.args.env.now c.take-in-Cover.new.env)
    (λ stop. StepStops g.H.Host.state stop c.args.env.now c.take-in-Cover.new.env) (λ stop why. Taking Roof c.args.tid (inr refl) why) c.take-in-Cover.ensures.stops

pub returns-in-Cover-clause-dead : goal.returns-in-Cover-clause-dead
returns-in-Cover-clause-dead g c = λ stop dead. (c.take-in-Cover.ensures.dead stop dead).1
