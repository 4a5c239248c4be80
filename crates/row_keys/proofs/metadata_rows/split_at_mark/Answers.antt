use Rattle.std.proofs.Common.{◌≡◌, ◌∙◌, sym, subst, List, ℕ, length, IsTrue, eq-eqb, arith}
use Rattle.std.proofs.lemmas.Bool.{false≢true}
use Rattle.std.proofs.lemmas.Bool.Decides.{nat_tests}
use Rattle.row_keys.specs.Marks.{is_unmarked}
use Rattle.row_keys.proofs.MarksLemmas.{if_none, all_unmarked, no_metadata_row, split_last, split_end, front_is_unmarked, mark_there, none_behind_mark, joined}
use Rattle.row_keys.proofs.metadata_rows.split_at_mark.Goals as goal
use Rattle.row_keys.proofs.metadata_rows.split_at_mark.Goals.{in_default-via-in-60+else-is_empty, in_default-via-in-59+else-end-le-MAX_END, in_default-via-in_default-1}

pub returns-in_err-at-clause-none : goal.returns-in_err-at-clause-none
returns-in_err-at-clause-none c =
    if_none c.from_residual.result (no_metadata_row c.args.bytes.now (all_unmarked c.args.bytes.now c.in_err-at.ensures))

pub returns-in-60-clause-parts : goal.returns-in-60-clause-parts
returns-in-60-clause-parts c =
    let bytes = c.args.bytes.now in
    let free = subst (λ (l : List ℕ). IsTrue (is_unmarked l)) (sym c.split_at.ensures.front) (front_is_unmarked bytes c.in_ok-at.at c.in_ok-at.ensures) in
    let is = joined bytes _ _ _ c.in_ok-at.at _ c.split_at.ensures.front c.split_at.ensures.back c.in_ok-mark.ensures.cases.0 in
    let none : length c.in_ok-mark.end.now ≡ 0 = grind (arith, nat_tests) in
    split_last bytes _ _ _ free is c.in-60.is none

pub returns-in-59-clause-parts : goal.returns-in-59-clause-parts
returns-in-59-clause-parts c =
    let bytes = c.args.bytes.now in
    let free = subst (λ (l : List ℕ). IsTrue (is_unmarked l)) (sym c.split_at.ensures.front) (front_is_unmarked bytes c.in_ok-at.at c.in_ok-at.ensures) in
    let is = joined bytes _ _ _ c.in_ok-at.at _ c.split_at.ensures.front c.split_at.ensures.back c.in_ok-mark.ensures.cases.0 in
    split_end bytes _ _ _ free is c.in-59.is c.if-end-le-MAX_END.true

pub returns-in_default-clause-none : goal.returns-in_default-clause-none
returns-in_default-clause-none c =
    let bytes = c.args.bytes.now in
    let free = subst (λ (l : List ℕ). IsTrue (is_unmarked l)) (sym c.split_at.ensures.front) (front_is_unmarked bytes c.in_ok-at.at c.in_ok-at.ensures) in
    let is = joined bytes _ _ _ c.in_ok-at.at _ c.split_at.ensures.front c.split_at.ensures.back c.in_ok-mark.ensures.cases.0 in
    let one = mark_there bytes c.in_ok-mark.end.now c.in_ok-at.at c.in_ok-mark.mark.now c.in_ok-at.ensures (sym c.split_at.ensures.back ∙ c.in_ok-mark.ensures.cases.0) in
    elim c.in_default.branch [
      | in_default-via-in-60+else-is_empty w ↦
          none_behind_mark bytes _ _ _ free one is (λ m n. false≢true (w.if-is_empty.ensures ∙ eq-eqb _ 0 n)) (λ m n. omega (arith, w.in-60.is, m))
      | in_default-via-in-59+else-end-le-MAX_END w ↦
          none_behind_mark bytes _ _ _ free one is (λ m n. omega (arith, w.in-59.is, m)) (λ m n. omega (arith, w.if-end-le-MAX_END.false, n))
      | in_default-via-in_default-1 w ↦ none_behind_mark bytes _ _ _ free one is (λ m n. omega arith) (λ m n. omega arith)
    ]
