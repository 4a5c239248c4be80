use Rattle.std.proofs.Common.{◌∙◌, List, subst}
use Rattle.std.proofs.lemmas.Result.{on_ok_weaker}
use Rattle.cell_merge.specs.declared.cell.Cell.{Cell}
use Rattle.plain_reader.specs.Puts.{put_each, PutsOver}
use Rattle.plain_reader.proofs.PutLemmas.{puts_merged}
use Rattle.plain_reader.proofs.put.put_cells.Goals as goal

pub returns : goal.returns
returns c =
    let id = c.args.id.now in
    let old = c.args.state.now in
    let new = c.put_in_order.new.state in
    on_ok_weaker c.put_in_order.result
    (λ puts. puts_merged id c.args.cells.now c.in_ok-merged.merged.items c.deref.result.now old new (c.deref.ensures.value ∙ c.in_ok-sources.ensures) c.in_ok-merged.ensures (subst (λ (l : List Cell). PutsOver id (put_each l) old new) c.deref-2.ensures.value puts))
    c.put_in_order.ensures
