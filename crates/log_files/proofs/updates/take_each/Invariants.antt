use Rattle.log_files.specs.Mutations.{spelled_update, FitsUpdate, AreRising}
use Rattle.log_files.specs.Parts.{StartsMany}
use Rattle.log_files.proofs.updates.take_each.Given as goal

abbrev pub invariant-loop : goal.invariant-loop
invariant-loop l = StartsMany FitsUpdate AreRising spelled_update l.counter l.bytes l.updates.items l.rest
