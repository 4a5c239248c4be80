use Rattle.std.proofs.Common.{◌<◌, ◌^◌, ◌∙◌, sym, ap, arith}
use Rattle.std.specs.Option.{option_copied}
use Rattle.fate_trial.proofs.TopLemmas.{top_upper, top_lower, top_none}
use Rattle.fate_trial.proofs.stack_ops.top_words.Goals as goal

pub returns-in-Some : goal.returns-in-Some
returns-in-Some g c =
    let small : c.args.tid < 2 ^ 64 = omega arith in
    top_upper c.args.env.now.nodes.nodes c.args.tid small c.in-Some.value.now c.in_ok-words_of.field-0 (ap option_copied (sym c.in-Some.is) ∙ c.in_ok-value.ensures) c.in_ok-words_of.ensures

pub returns-in_ok-words_of-in-Some-2 : goal.returns-in_ok-words_of-in-Some-2
returns-in_ok-words_of-in-Some-2 g c =
    let small : c.args.tid < 2 ^ 64 = omega arith in
    top_lower c.args.env.now.nodes.nodes c.args.tid small c.in-Some-2.value.now c.in_ok-words_of-in-Some-2.field-0 (ap option_copied (sym c.in_default.is) ∙ c.in_ok-value.ensures) (ap option_copied (sym c.in-Some-2.is) ∙ c.in_ok-value-2.ensures) c.in_ok-words_of-in-Some-2.ensures

pub returns-in-None : goal.returns-in-None
returns-in-None g c =
    let small : c.args.tid < 2 ^ 64 = omega arith in
    top_none c.args.env.now.nodes.nodes c.args.tid small (ap option_copied (sym c.in_default.is) ∙ c.in_ok-value.ensures) (ap option_copied (sym c.in-None.is) ∙ c.in_ok-value-2.ensures)
