use Rattle.kept_meaning.proofs.AsideLemmas.{unseen_stands, unseen_kept, new_kept}
use Rattle.kept_meaning.proofs.rows.an_unseen_row_keeps_the_state.Goals as goal

pub returns : goal.returns
returns c = record {
  stands = λ reading catalog known state is write table end tablet change. unseen_stands reading catalog known state write table end tablet change is;
  kept = λ reading catalog known state is write table end tablet change. unseen_kept reading catalog known state write table end tablet change is;
  new_tablets = new_kept;
}
