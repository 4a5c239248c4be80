use Rattle.store_meaning.proofs.FlushLemmas.{flush_covered, flush_empties, nothing_covered, nothing_empties}
use Rattle.store_meaning.proofs.contents.a_flush_keeps_the_cells.Goals as goal

pub returns : goal.returns
returns c = record {
  covered = λ known low old new flushes was is. flush_covered known low old new flushes was is;
  empties = λ known low old new flushes was is. flush_empties known low old new flushes was is;
  nothing_covered = λ known low old new flushes was is. nothing_covered known low old new flushes was is;
  nothing_empties = λ known low old new flushes was is. nothing_empties known low old new flushes was is;
}
