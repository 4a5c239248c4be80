use Rattle.std.proofs.Common.{◌≡◌, [], take}
use Rattle.metadata_schema.specs.Refusals.{of_family}
use Rattle.metadata_schema.proofs.holders.only_of.Given as goal

abbrev pub invariant-loop-update : goal.invariant-loop-update
invariant-loop-update l = of_family l.family (take l.update-index l.updates) ≡ []
