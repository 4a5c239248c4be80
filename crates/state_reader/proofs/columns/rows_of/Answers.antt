use Rattle.std.proofs.Common.{◌∙◌, ◌++◌, ◌∷◌, [], List, ℕ, take, Contains, sym, ap, subst}
use Rattle.std.specs.Bool.{OnTrue}
use Rattle.cell_merge.specs.declared.cell.Pair.{Pair}
use Rattle.state_reader.specs.Columns.{AreRowsOf}
use Rattle.state_reader.proofs.RowLists.{one_more, rows_push, rows_keep}
use Rattle.state_reader.proofs.columns.rows_of.Goals.{then-not-is_last+in_ok-copy+in_ok-push, else-not-is_last}
use Rattle.state_reader.proofs.columns.rows_of.Goals as goal

pub loop-pair-preserved : goal.loop-pair-preserved
loop-pair-preserved c =
    let pairs = c.args.pairs.now in
    let at = c.loop-pair.pair-index in
    let pair = c.pair-item.result in
    let rows = c.loop-pair.rows.items in
    let more = sym (one_more pairs at pair c.loop-pair-test.true c.pair-item.is) in
    subst (λ (l : List Pair). AreRowsOf l c.if-not-is_last.rows.items) more (elim c.if-not-is_last.branch [
      | then-not-is_last+in_ok-copy+in_ok-push w ↦
          let pushed = ap (λ v. v.items) w.rows-is ∙ w.in_ok-push.ensures.items ∙ ap (λ (row : List ℕ). rows ++ row ∷ []) w.in_ok-copy.ensures in
          subst (AreRowsOf (take at pairs ++ pair ∷ [])) (sym pushed) (rows_push (take at pairs) pair rows c.loop-pair.invariant)
      | else-not-is_last w ↦
          let known = subst (λ b. OnTrue b (Contains c.deref.result.now pair.key.row)) w.if-not-is_last.false c.is_last.ensures in
          subst (AreRowsOf (take at pairs ++ pair ∷ [])) (sym (ap (λ v. v.items) w.rows-is)) (rows_keep (take at pairs) pair rows c.loop-pair.invariant (subst (λ (l : List (List ℕ)). Contains l pair.key.row) c.deref.ensures.value known))
    ])
