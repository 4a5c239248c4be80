use Rattle.std.proofs.Common.{sym}
use Rattle.hosted_writes.proofs.MapLemmas.{is_put}
use Rattle.hosted_writes.proofs.tests.hosting.Goals as goal

pub returns : goal.returns
returns c = is_put _ _ _ _ _ (sym c.in_ok-copy.ensures) c.in_ok-insert.ensures.ok
