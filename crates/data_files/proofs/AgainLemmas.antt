-- Cells of files that are written again.
use Rattle.std.proofs.Common.{Bool, List, get_or, All, Option}
use Rattle.std.proofs.lemmas.List.Elements.{All-contains, All-filter, Contains-get_or}
use Rattle.row_keys.specs.RowOrder.{is_within}
use Rattle.cell_merge.specs.declared.cell.Cell.{Cell}
use Rattle.cell_merge.specs.Newest.{Bytes, IsMerged, clipped}
use Rattle.cell_merge.proofs.MergedLemmas.{within-merged}
use Rattle.cell_merge.proofs.RisingLemmas.{rising-filter}
use Rattle.data_files.specs.Cells.{FitsCell, AreFileCells}

pub merged_again : (cells merged : List Cell) (keep : Bool) → All FitsCell cells → IsMerged cells keep merged → AreFileCells merged
merged_again cells merged keep fits is = record {
  each = λ k d within. All-contains FitsCell cells (get_or merged k d) fits (within-merged cells keep merged is (get_or merged k d) (Contains-get_or merged k d within));
  rising = is.rising;
}

pub clipped_again : (low high : Option Bytes) (cells : List Cell) → AreFileCells cells → AreFileCells (clipped low high cells)
clipped_again low high cells are = record {
  each = All-filter (λ (cell : Cell). is_within low high cell.key.row) FitsCell cells are.each;
  rising = rising-filter (λ (cell : Cell). cell.key) (λ cell. is_within low high cell.key.row) cells are.rising;
}
