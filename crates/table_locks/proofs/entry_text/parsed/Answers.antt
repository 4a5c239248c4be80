use Rattle.std.proofs.Common.{◌∙◌, sym}
use Rattle.table_locks.proofs.TextLemmas.{no_text, text_is, utf8_decimal, utf8_padded, parsed_plain, parsed_padded}
use Rattle.table_locks.proofs.entry_text.parsed.Goals as goal

pub returns-in_err-text-clause-plain : goal.returns-in_err-text-clause-plain
returns-in_err-text-clause-plain c = λ number small is. absurd (no_text _ c.args.text.now c.from_utf8.result c.from_utf8.ensures.cases (sym c.ok.ensures.value ∙ c.in_err-text.was) (utf8_decimal c.args.text.now number small is))

pub returns-in_err-text-clause-padded : goal.returns-in_err-text-clause-padded
returns-in_err-text-clause-padded c = λ number small is. absurd (no_text _ c.args.text.now c.from_utf8.result c.from_utf8.ensures.cases (sym c.ok.ensures.value ∙ c.in_err-text.was) (utf8_padded c.args.text.now number small is))

pub returns-clause-plain : goal.returns-clause-plain
returns-clause-plain c = λ number small is.
    let text = text_is _ c.args.text.now c.from_utf8.result c.in_ok-text.text c.from_utf8.ensures.cases (sym c.ok.ensures.value ∙ c.in_ok-text.was) in
    c.ok-2.ensures.value ∙ parsed_plain c.in_ok-text.text.now c.parse.result number c.parse.ensures.value.0 small (text ∙ is)

pub returns-clause-padded : goal.returns-clause-padded
returns-clause-padded c = λ number small is.
    let text = text_is _ c.args.text.now c.from_utf8.result c.in_ok-text.text c.from_utf8.ensures.cases (sym c.ok.ensures.value ∙ c.in_ok-text.was) in
    c.ok-2.ensures.value ∙ parsed_padded c.in_ok-text.text.now c.parse.result number c.parse.ensures.value.0 small (text ∙ is)
