use Rattle.std.proofs.Common.{take}
use Rattle.std.specs.List.{All}
use Rattle.metadata_schema.specs.Kinds.{IsColumn}
use Rattle.metadata_schema.proofs.reading.are_named.Given as goal

abbrev pub invariant-loop-update : goal.invariant-loop-update
invariant-loop-update l = All (λ update. IsColumn update.family update.qualifier) (take l.update-index l.updates)
