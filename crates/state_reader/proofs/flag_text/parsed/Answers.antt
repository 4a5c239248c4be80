use Rattle.std.proofs.Common.{◌∙◌, sym}
use Rattle.metadata_schema.proofs.NumberLemmas.{not_decimal, text_is, parsed_is}
use Rattle.state_reader.proofs.flag_text.parsed.Goals as goal

pub returns-in_err-text : goal.returns-in_err-text
returns-in_err-text c = λ number small is. absurd (not_decimal _ c.args.text.now c.from_utf8.result number c.from_utf8.ensures.cases (sym c.ok.ensures.value ∙ c.in_err-text.was) small is)

pub returns : goal.returns
returns c = λ number small is.
    let text = text_is _ c.args.text.now c.from_utf8.result c.in_ok-text.text c.from_utf8.ensures.cases (sym c.ok.ensures.value ∙ c.in_ok-text.was) in
    c.ok-2.ensures.value ∙ parsed_is c.in_ok-text.text.now c.parse.result number c.parse.ensures.value.0 small (text ∙ is)
