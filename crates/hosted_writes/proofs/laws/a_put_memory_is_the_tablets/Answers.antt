use Rattle.hosted_writes.proofs.FollowLemmas.{memory_follows, past_follows, content_follows}
use Rattle.hosted_writes.proofs.laws.a_put_memory_is_the_tablets.Goals as goal

pub returns : goal.returns
returns c = record { memory = memory_follows; past = past_follows; content = content_follows }
