use Rattle.std.proofs.Common.{◌≡◌, ◌∙◌, sym, ap, arith, ◌+◌, length, Option}
use Rattle.cell_merge.specs.Newest.{Bytes}
use Rattle.data_files.specs.Cells.{spelled_value}
use Rattle.data_files.proofs.SizeLemmas.{length-spelled_cell, length-spelled_value, length-spelled_none}
use Rattle.data_files.proofs.sizes.cell_size.Goals.{in-Some, in-None}
use Rattle.data_files.proofs.sizes.cell_size.Goals as goal

pub returns : goal.returns
returns c =
    let value : c.match-cell.value ≡ length (spelled_value c.args.cell.now.value) = elim c.match-cell.branch [
      | in-Some w ↦ w.value-is ∙ ap (λ (l : Bytes). 3 + length l) w.as_bytes-in-Some.ensures ∙ sym (length-spelled_value w.in-Some.value) ∙ ap (λ (o : Option Bytes). length (spelled_value o)) (sym w.in-Some.is)
      | in-None w ↦ w.value-is ∙ sym length-spelled_none ∙ ap (λ (o : Option Bytes). length (spelled_value o)) (sym w.in-None.is)
    ] in
    omega (arith, value, length-spelled_cell c.args.cell.now, ap length c.as_bytes.ensures.bytes, ap length c.as_bytes-2.ensures, ap length c.as_bytes-3.ensures)
