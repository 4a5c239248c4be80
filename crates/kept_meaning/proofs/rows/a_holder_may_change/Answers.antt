use Rattle.kept_meaning.proofs.PlaceLemmas.{rewrite_stands, rewrite_kept}
use Rattle.kept_meaning.proofs.TabletLemmas.{holders_rewrite}
use Rattle.kept_meaning.proofs.rows.a_holder_may_change.Goals as goal

pub returns : goal.returns
returns c = record {
  stands = λ reading catalog known state is write change changes. rewrite_stands reading catalog known state is write change (holders_rewrite reading catalog known state is write change changes);
  kept = λ reading catalog known state is write change changes. rewrite_kept reading catalog known state is write change (holders_rewrite reading catalog known state is.stands write change changes);
}
