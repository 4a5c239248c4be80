use Rattle.std.proofs.Common.{◌<◌, ◌^◌, ◌∙◌, arith}
use Rattle.std.specs.Option.{option_copied}
use Rattle.fate_trial.proofs.TopLemmas.{status_at}
use Rattle.fate_trial.proofs.stack_ops.status.Goals as goal

pub returns : goal.returns
returns g c =
    let small : c.args.tid < 2 ^ 64 = omega arith in
    c.status_in.ensures ∙ status_at c.args.env.now.nodes.nodes c.args.tid small (option_copied c.in_ok-slot.field-0) c.in_ok-slot.ensures
