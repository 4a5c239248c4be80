use Rattle.std.proofs.Common.{◌≡◌, ◌∙◌, sym, ap, max, ◌++◌, [], ◌∷◌, take, ℕ}
use Rattle.std.proofs.lemmas.List.{take_more}
use Rattle.cell_merge.specs.declared.cell.Cell.{Cell}
use Rattle.data_files.specs.Files.{greatest_time}
use Rattle.data_files.proofs.OrderLemmas.{greatest_time-push, ord_max-nat}
use Rattle.data_files.proofs.order.greatest_time.Goals as goal

pub loop-cell-preserved : goal.loop-cell-preserved
loop-cell-preserved c =
    let larger : c.max-greatest.result ≡ max c.loop-cell.greatest c.cell-item.result.time = c.max-greatest.ensures ∙ ord_max-nat c.loop-cell.greatest c.cell-item.result.time in
    larger
    ∙ ap (λ (n : ℕ). max n c.cell-item.result.time) c.loop-cell.invariant
    ∙ sym (greatest_time-push (take c.loop-cell.cell-index c.args.cells.now) c.cell-item.result)
    ∙ ap (λ (x : Cell). greatest_time (take c.loop-cell.cell-index c.args.cells.now ++ x ∷ [])) c.cell-item.is
    ∙ ap greatest_time (sym (take_more c.args.cells.now c.loop-cell.cell-index c.cell-item.result c.loop-cell-test.true))
