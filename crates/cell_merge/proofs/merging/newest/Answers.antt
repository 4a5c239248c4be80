use Rattle.std.proofs.Common.{◌∙◌, sym, ap, subst, [], false}
use Rattle.std.specs.List.{filter_map}
use Rattle.std.proofs.lemmas.Result.{IfOk-weaker}
use Rattle.cell_merge.specs.Newest.{IsNewest, pair_of}
use Rattle.cell_merge.proofs.IndexLemmas.{index_empty, index_merged}
use Rattle.cell_merge.proofs.MergedLemmas.{newest-from_merged}
use Rattle.cell_merge.proofs.merging.newest.Goals as goal

pub returns : goal.returns
returns c =
    let index = c.in_ok-add_all.ensures [] (index_empty c.new-latest.result c.new-latest.ensures.empty c.new-latest.ensures.ordered) in
    let newest = newest-from_merged c.args.cells.now _ (index_merged c.args.cells.now false c.add_all.new.latest index) in
    IfOk-weaker c.pairs_of.result _ _ (λ pairs is. subst (IsNewest c.args.cells.now) (sym (is ∙ ap (filter_map pair_of) c.in_ok-kept.ensures)) newest) c.pairs_of.ensures
