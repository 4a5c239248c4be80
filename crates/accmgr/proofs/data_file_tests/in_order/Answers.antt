use Rattle.std.proofs.Common.{All, List, [], ◌++◌, sym, subst, true, append-nil}
use Rattle.cell_merge.specs.declared.cell.Cell.{Cell}
use Rattle.data_files.specs.Cells.{FitsCell}
use Rattle.data_files.proofs.AgainLemmas.{merged_again}
use Rattle.accmgr.proofs.data_file_tests.in_order.Goals as goal

pub returns : goal.returns
returns c =
    let cells = c.from_vec.result in
    let fits = subst (λ (l : List Cell). All FitsCell l) (sym c.from_vec.ensures) c.requires in
    merged_again (cells ++ []) c.in_ok-merged.merged.items true (subst (λ (l : List Cell). All FitsCell l) (sym (append-nil cells)) fits) c.in_ok-merged.ensures
