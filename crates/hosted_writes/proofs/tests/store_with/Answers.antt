use Rattle.std.proofs.Common.{refl}
use Rattle.hosted_writes.proofs.MapLemmas.{is_put}
use Rattle.hosted_writes.proofs.tests.store_with.Goals as goal

pub returns : goal.returns
returns c = is_put _ _ _ _ _ refl c.in_ok-make_log.ensures.made
