use Rattle.std.proofs.Common.{List, [], ◌∷◌, ◌++◌, ◌∙◌, map, take, sym, ap}
use Rattle.std.proofs.lemmas.List.{map-append}
use Rattle.state_reader.proofs.RowLists.{one_more}
use Rattle.plain_state.specs.Pairs.{plain_pair}
use Rattle.plain_state.proofs.staged.pairs_of.Goals as goal

pub loop-pair-preserved : goal.loop-pair-preserved
loop-pair-preserved c =
    let newest = c.deref-pair-items.result.now in
    let pair = c.pair-item.result in
    c.in_ok-push.ensures.items
    ∙ (λ i. c.loop-pair.invariant i ++ record { key = c.in_ok-copy.ensures i; value = c.in_ok-copy-2.ensures i } ∷ [])
    ∙ sym (ap (map plain_pair) (one_more newest c.loop-pair.pair-index pair c.loop-pair-test.true c.pair-item.is) ∙ map-append plain_pair (take c.loop-pair.pair-index newest) (pair ∷ []))
