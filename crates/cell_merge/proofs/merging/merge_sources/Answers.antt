use Rattle.std.proofs.Common.{◌∙◌, sym, ap, subst, arith, List, [], ◌∷◌, ◌++◌, take}
use Rattle.std.proofs.lemmas.List.{take_more, take_all, flat_map_more}
use Rattle.std.proofs.lemmas.Result.{IfOk-weaker}
use Rattle.cell_merge.specs.declared.cell.Cell.{Cell}
use Rattle.cell_merge.specs.Newest.{IsMerged, joined}
use Rattle.cell_merge.specs.Index.{IsIndexOf}
use Rattle.cell_merge.proofs.IndexLemmas.{index_empty, index_merged}
use Rattle.cell_merge.proofs.merging.merge_sources.Goals as goal

pub loop-source-init : goal.loop-source-init
loop-source-init c = index_empty c.new-latest.result c.new-latest.ensures.empty c.new-latest.ensures.ordered

pub loop-source-preserved : goal.loop-source-preserved
loop-source-preserved c =
    let before = take c.loop-source.source-index c.args.sources.now in
    subst (λ (l : List Cell). IsIndexOf l c.add_all.new.latest)
    (ap (λ (l : List Cell). joined before ++ l) c.as_slice.ensures
    ∙ flat_map_more (λ (cells : List Cell). cells) [] before c.source-item.result
    ∙ ap (λ (x : List Cell). joined (before ++ x ∷ [])) c.source-item.is
    ∙ ap joined (sym (take_more c.args.sources.now c.loop-source.source-index c.source-item.result c.loop-source-test.true)))
    (c.in_ok-add_all.ensures (joined before) c.loop-source.invariant)

pub returns : goal.returns
returns c =
    let index = subst (λ (l : List (List Cell)). IsIndexOf (joined l) c.loop-source.latest) (take_all _ c.args.sources.now (omega arith)) c.loop-source.invariant in
    let merged = index_merged (joined c.args.sources.now) c.args.keep_removed c.loop-source.latest index in
    IfOk-weaker c.kept.result _ _ (λ kept is. subst (IsMerged (joined c.args.sources.now) c.args.keep_removed) (sym is) merged) c.kept.ensures
