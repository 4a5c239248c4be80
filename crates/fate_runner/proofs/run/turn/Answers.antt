use Rattle.std.proofs.Common.{refl}
use Rattle.std.proofs.lemmas.Result.{err_from_is_err_and}
use Rattle.fate_runner.specs.Passing.{Nowhere, By_stacks}
use Rattle.fate_runner.proofs.run.turn.Goals as goal

pub returns-in_err-status-clause-stops : goal.returns-in_err-status-clause-stops
returns-in_err-status-clause-stops g c =
    let p = err_from_is_err_and c.from_residual.result c.from_residual.ensures.1 in rw (p.1, p.2) (By_stacks c.args.env.now (Nowhere refl) c.in_err-status.ensures.stops)
