use Rattle.hosted_writes.proofs.MapLemmas.{put_own, put_others, put_sessions}
use Rattle.hosted_writes.proofs.laws.a_put_changes_one_memory.Goals as goal

pub returns : goal.returns
returns c = record { own = put_own; others = put_others; sessions = put_sessions }
