use Rattle.kept_meaning.proofs.PlaceLemmas.{rewrite_stands, rewrite_kept}
use Rattle.kept_meaning.proofs.TabletLemmas.{flush_rewrites}
use Rattle.kept_meaning.proofs.rows.a_tablet_may_be_flushed.Goals as goal

pub returns : goal.returns
returns c = record {
  stands = λ reading catalog known state is write change flushes. rewrite_stands reading catalog known state is write change (flush_rewrites reading catalog known state is write change flushes);
  kept = λ reading catalog known state is write change flushes. rewrite_kept reading catalog known state is write change (flush_rewrites reading catalog known state is.stands write change flushes);
}
