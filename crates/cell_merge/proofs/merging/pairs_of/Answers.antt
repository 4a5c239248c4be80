use Rattle.std.proofs.Common.{◌∙◌, sym, ap, List, Option, [], ◌∷◌, ◌++◌, append-nil}
use Rattle.std.specs.List.{filter_map, cons_option}
use Rattle.std.proofs.lemmas.List.Elements.{filter_map-append}
use Rattle.cell_merge.specs.declared.cell.Pair.{Pair}
use Rattle.cell_merge.specs.Newest.{pair_of}
use Rattle.cell_merge.proofs.merging.pairs_of.Goals as goal

pub loop-cell-preserved-in-Continue-1 : goal.loop-cell-preserved-in-Continue-1
loop-cell-preserved-in-Continue-1 c =
    c.in_ok-push.ensures.items
    ∙ ap (λ (l : List Pair). l ++ c.in-Some-pair_of.pair ∷ []) c.loop-cell.invariant
    ∙ ap (λ (o : Option Pair). filter_map pair_of c.loop-cell.yielded ++ cons_option o []) (sym c.in-Some-pair_of.is ∙ c.pair_of.ensures)
    ∙ sym (filter_map-append pair_of c.loop-cell.yielded (c.in-Some.cell ∷ []))

pub loop-cell-preserved : goal.loop-cell-preserved
loop-cell-preserved c =
    c.loop-cell.invariant
    ∙ sym (append-nil (filter_map pair_of c.loop-cell.yielded))
    ∙ ap (λ (o : Option Pair). filter_map pair_of c.loop-cell.yielded ++ cons_option o []) (sym c.in_default.is ∙ c.pair_of.ensures)
    ∙ sym (filter_map-append pair_of c.loop-cell.yielded (c.in-Some.cell ∷ []))
