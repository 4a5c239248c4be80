use Rattle.std.proofs.Common.{◌≡◌, ◌<◌, ◌^◌, IfOk, subst, arith}
use Rattle.std.specs.Option.{option_copied}
use Rattle.fate_trial.proofs.TopLemmas.{kind_at}
use Rattle.fate_trial.proofs.stack_ops.kind.Goals as goal

pub returns : goal.returns
returns g c =
    let small : c.args.tid < 2 ^ 64 = omega arith in
    subst (λ k. IfOk c.kind_in.result (λ kind. kind ≡ k)) (kind_at c.args.env.now.nodes.nodes c.args.tid small (option_copied c.in_ok-slot.field-0) c.in_ok-slot.ensures) c.kind_in.ensures
