use Rattle.std.proofs.Common.{◌≡◌, ◌∙◌, [], codes, sym, subst}
use Rattle.log_files.proofs.ManyLemmas.{is_something}
use Rattle.store_meaning.specs.Levels.{candidate_row}
use Rattle.state_reader.specs.LevelRows.{IsBadCandidate}
use Rattle.state_reader.proofs.BadRows.{bad_candidate}
use Rattle.state_reader.proofs.Prefixes.{stripped, lone_once}
use Rattle.state_reader.proofs.marks.read_candidate.Goals as goal

pub returns-in_default-lone_value-clause-err : goal.returns-in_default-lone_value-clause-err
returns-in_default-lone_value-clause-err c = λ kind cells newest has.
    let place : c.args.row.now ≡ candidate_row c.in-Some.bytes.now = sym c.as_bytes.ensures.bytes ∙ stripped (codes "~del") c.as_bytes.result.now c.in-Some.bytes.now c.in-Some.ensures.cases.0 c.in-Some.ensures.cases.1 in
    subst (IsBadCandidate cells) (sym c.in_ok-copy.ensures) (bad_candidate cells c.args.pairs.now newest c.args.row.now has c.in-Some.bytes.now place (λ columns form. c.in_default-lone_value.ensures [] (c.deref.ensures.value ∙ c.in_ok-columns.ensures ∙ columns)))

pub returns-then-not-is_empty-clause-err : goal.returns-then-not-is_empty-clause-err
returns-then-not-is_empty-clause-err c = λ kind cells newest has.
    let place : c.args.row.now ≡ candidate_row c.in-Some.bytes.now = sym c.as_bytes.ensures.bytes ∙ stripped (codes "~del") c.as_bytes.result.now c.in-Some.bytes.now c.in-Some.ensures.cases.0 c.in-Some.ensures.cases.1 in
    subst (IsBadCandidate cells) (sym c.in_ok-copy-2.ensures) (bad_candidate cells c.args.pairs.now newest c.args.row.now has c.in-Some.bytes.now place
    (λ columns form. let empty = lone_once c.in-Some-lone_value.value.now [] (sym c.in-Some-lone_value.ensures ∙ c.deref.ensures.value ∙ c.in_ok-columns.ensures ∙ columns) in
    is_something c.is_empty.result c.as_bytes-2.result.now c.is_empty.ensures c.if-not-is_empty.true (c.as_bytes-2.ensures ∙ empty)))

pub returns-in_default-2-clause-err : goal.returns-in_default-2-clause-err
returns-in_default-2-clause-err c = λ kind cells newest has.
    let place : c.args.row.now ≡ candidate_row c.in-Some.bytes.now = sym c.as_bytes.ensures.bytes ∙ stripped (codes "~del") c.as_bytes.result.now c.in-Some.bytes.now c.in-Some.ensures.cases.0 c.in-Some.ensures.cases.1 in
    subst (IsBadCandidate cells) (sym c.in_ok-copy-3.ensures) (bad_candidate cells c.args.pairs.now newest c.args.row.now has c.in-Some.bytes.now place (λ columns form. (rw c.in_default-2.is at c.in_ok-path.ensures.ok) form))
