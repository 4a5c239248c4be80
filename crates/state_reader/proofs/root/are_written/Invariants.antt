use Rattle.std.proofs.Common.{take}
use Rattle.std.specs.Prelude.{IsSome}
use Rattle.std.specs.List.{All}
use Rattle.metadata_schema.specs.declared.mutation.Update.{Update}
use Rattle.state_reader.proofs.root.are_written.Given as goal

abbrev pub invariant-loop-update : goal.invariant-loop-update
invariant-loop-update l = All (λ (update : Update). IsSome update.value) (take l.update-index l.updates)
