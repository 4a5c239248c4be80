use Rattle.kept_meaning.proofs.PlaceLemmas.{rewrite_stands, rewrite_kept}
use Rattle.kept_meaning.proofs.TabletLemmas.{files_rewrite}
use Rattle.kept_meaning.proofs.rows.files_of_a_tablet_may_be_replaced.Goals as goal

pub returns : goal.returns
returns c = record {
  stands = λ reading catalog known state is write change files. rewrite_stands reading catalog known state is write change (files_rewrite reading catalog known state is write change files);
  kept = λ reading catalog known state is write change files. rewrite_kept reading catalog known state is write change (files_rewrite reading catalog known state is.stands write change files);
}
