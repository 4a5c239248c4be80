use Rattle.std.proofs.Common.{◌≡◌, ◌∙◌, codes, sym, ap, subst}
use Rattle.store_meaning.specs.Levels.{flag_row}
use Rattle.state_reader.specs.LevelRows.{IsBadFlag}
use Rattle.state_reader.specs.RowReads.{flag_text}
use Rattle.state_reader.proofs.BadRows.{bad_flag}
use Rattle.state_reader.proofs.Prefixes.{stripped, lone_once}
use Rattle.state_reader.proofs.marks.read_flag.Goals as goal

pub returns-in_default-lone_value-clause-err : goal.returns-in_default-lone_value-clause-err
returns-in_default-lone_value-clause-err c = λ kind cells newest has.
    let place : c.args.row.now ≡ flag_row c.in-Some.bytes.now = sym c.as_bytes.ensures.bytes ∙ stripped (codes "~blip") c.as_bytes.result.now c.in-Some.bytes.now c.in-Some.ensures.cases.0 c.in-Some.ensures.cases.1 in
    subst (IsBadFlag cells) (sym c.in_ok-copy.ensures) (bad_flag cells c.args.pairs.now newest c.args.row.now has c.in-Some.bytes.now place (λ tid number small few columns form. c.in_default-lone_value.ensures (flag_text tid number) (c.deref.ensures.value ∙ c.in_ok-columns.ensures ∙ columns)))

pub returns-in_default-2-clause-err : goal.returns-in_default-2-clause-err
returns-in_default-2-clause-err c = λ kind cells newest has.
    let place : c.args.row.now ≡ flag_row c.in-Some.bytes.now = sym c.as_bytes.ensures.bytes ∙ stripped (codes "~blip") c.as_bytes.result.now c.in-Some.bytes.now c.in-Some.ensures.cases.0 c.in-Some.ensures.cases.1 in
    subst (IsBadFlag cells) (sym c.in_ok-copy-2.ensures) (bad_flag cells c.args.pairs.now newest c.args.row.now has c.in-Some.bytes.now place
    (λ tid number small few columns form. let text = lone_once c.in-Some-lone_value.value.now (flag_text tid number) (sym c.in-Some-lone_value.ensures ∙ c.deref.ensures.value ∙ c.in_ok-columns.ensures ∙ columns) in (rw c.in_default-2.is at c.in_ok-tid.ensures) tid number small few (c.as_bytes-2.ensures ∙ text)))

pub returns-in_default-3-clause-err : goal.returns-in_default-3-clause-err
returns-in_default-3-clause-err c = λ kind cells newest has.
    let place : c.args.row.now ≡ flag_row c.in-Some.bytes.now = sym c.as_bytes.ensures.bytes ∙ stripped (codes "~blip") c.as_bytes.result.now c.in-Some.bytes.now c.in-Some.ensures.cases.0 c.in-Some.ensures.cases.1 in
    subst (IsBadFlag cells) (sym c.in_ok-copy-3.ensures) (bad_flag cells c.args.pairs.now newest c.args.row.now has c.in-Some.bytes.now place (λ tid number small few columns form. (rw c.in_default-3.is at c.in_ok-path.ensures.ok) form))
