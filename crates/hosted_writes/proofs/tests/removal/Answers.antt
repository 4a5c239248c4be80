use Rattle.std.proofs.Common.{◌∙◌}
use Rattle.std.specs.Prelude.{codes}
use Rattle.hosted_writes.proofs.TestLemmas.{lone_removal, candidate_goes}
use Rattle.hosted_writes.proofs.tests.removal.Goals as goal

pub returns-clause-row : goal.returns-clause-row
returns-clause-row c index =
    candidate_goes index (codes "1/default_tablet/F0000001.rf") _ _ c.in_ok-new-4.ensures.ok
    (lone_removal _ _ _ _ c.new-updates.ensures.items c.in_ok-new.ensures c.in_ok-new-2.ensures (c.from_vec.ensures ∙ c.in_ok-push.ensures.items))
