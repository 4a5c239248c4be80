use Rattle.std.proofs.Common.{◌<◌, ◌^◌, inl, inr, refl, arith}
use Rattle.fate_trial.specs.declared.layout.Slot.TheVariants.{Walls, Roof}
use Rattle.fate_trial.specs.Stops.{Making}
use Rattle.fate_trial.proofs.WorkLemmas.{raise_called, raise_failed, cover_called, cover_failed}
use Rattle.fate_trial.proofs.levels.LevelStepSite.call.Goals as goal

pub returns-in-Ok-clause-works : goal.returns-in-Ok-clause-works
returns-in-Ok-clause-works g c =
    λ top. let small : c.args.tid < 2 ^ 64 = omega arith in
    raise_called c.args.tid small (g.met.H.Host.sound c.args.env.now.host) c.args.self.now top c.in-Raise.is c.in-Ok.ensures.acts

pub returns-in-Err-clause-works : goal.returns-in-Err-clause-works
returns-in-Err-clause-works g c =
    λ top. let small : c.args.tid < 2 ^ 64 = omega arith in
    raise_failed c.args.tid small (g.met.H.Host.sound c.args.env.now.host) c.args.self.now top c.in-Raise.is c.in-Err.stop c.in-Err.ensures.acts

pub returns-in-Ok-make-clause-works : goal.returns-in-Ok-make-clause-works
returns-in-Ok-make-clause-works g c =
    λ top. let small : c.args.tid < 2 ^ 64 = omega arith in
    cover_called c.args.tid small (g.met.H.Host.sound c.args.env.now.host) c.args.self.now top c.in-Cover.is c.in-Ok-make.ensures.acts

pub returns-in-Err-make-clause-works : goal.returns-in-Err-make-clause-works
returns-in-Err-make-clause-works g c =
    λ top. let small : c.args.tid < 2 ^ 64 = omega arith in
    cover_failed c.args.tid small (g.met.H.Host.sound c.args.env.now.host) c.args.self.now top c.in-Cover.is c.in-Err-make.stop c.in-Err-make.ensures.acts

pub returns-in-Ok-clause-dead : goal.returns-in-Ok-clause-dead
returns-in-Ok-clause-dead g c = λ stop dead. (c.in-Ok.ensures.dead stop dead).1

pub returns-in-Err-clause-stops : goal.returns-in-Err-clause-stops
returns-in-Err-clause-stops g c = Making Walls c.args.tid (inl refl) c.in-Err.ensures.stops

pub returns-in-Err-make-clause-stops : goal.returns-in-Err-make-clause-stops
returns-in-Err-make-clause-stops g c = Making Roof c.args.tid (inr refl) c.in-Err-make.ensures.stops
