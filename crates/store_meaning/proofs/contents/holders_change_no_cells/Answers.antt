use Rattle.store_meaning.proofs.HolderLemmas.{holders_same, same_covered}
use Rattle.store_meaning.proofs.contents.holders_change_no_cells.Goals as goal

pub returns : goal.returns
returns c = record {
  same = λ known low old new changes was is. holders_same known low old new changes was is;
  covered = same_covered;
}
