use Rattle.std.proofs.Common.{◌∙◌, sym, ap, subst, arith, List, ◌++◌, [], ◌∷◌, take, append_assoc}
use Rattle.std.proofs.lemmas.List.{take_more, take_all}
use Rattle.cell_merge.specs.declared.cell.Cell.{Cell}
use Rattle.cell_merge.specs.Index.{IsIndexOf}
use Rattle.cell_merge.proofs.latest.add_all.Goals as goal

pub loop-cell-preserved : goal.loop-cell-preserved
loop-cell-preserved c = λ cells index.
    subst (λ (l : List Cell). IsIndexOf l c.add.new.latest)
    (append_assoc cells (take c.loop-cell.cell-index c.args.more.now) (c.cell-item.result ∷ [])
    ∙ ap (λ (x : Cell). cells ++ (take c.loop-cell.cell-index c.args.more.now ++ x ∷ [])) c.cell-item.is
    ∙ ap (λ (l : List Cell). cells ++ l) (sym (take_more c.args.more.now c.loop-cell.cell-index c.cell-item.result c.loop-cell-test.true)))
    (c.in_ok-add.ensures _ (c.loop-cell.invariant cells index))

pub returns : goal.returns
returns c = λ cells index. subst (λ (l : List Cell). IsIndexOf (cells ++ l) c.loop-cell.latest) (take_all _ c.args.more.now (omega arith)) (c.loop-cell.invariant cells index)
