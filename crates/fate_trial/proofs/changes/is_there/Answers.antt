use Rattle.std.proofs.Common.{◌<◌, ◌^◌, ◌∙◌, is_some, sym, ap, arith}
use Rattle.std.specs.Option.{option_copied}
use Rattle.fate_trial.specs.SlotLemmas.{has_is}
use Rattle.fate_trial.proofs.changes.is_there.Goals as goal

pub returns-in-Some : goal.returns-in-Some
returns-in-Some g c =
    let small : c.args.tid < 2 ^ 64 = omega arith in
    ap (λ o. is_some (option_copied o)) (sym c.in-Some.is) ∙ has_is c.args.env.now.nodes.nodes c.args.slot c.args.tid small (option_copied c.in_ok-slot.field-0) c.in_ok-slot.ensures

pub returns-in-None : goal.returns-in-None
returns-in-None g c =
    let small : c.args.tid < 2 ^ 64 = omega arith in
    ap (λ o. is_some (option_copied o)) (sym c.in-None.is) ∙ has_is c.args.env.now.nodes.nodes c.args.slot c.args.tid small (option_copied c.in_ok-slot.field-0) c.in_ok-slot.ensures
