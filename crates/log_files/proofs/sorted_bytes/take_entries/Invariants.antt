use Rattle.log_files.specs.Mutations.{IsLogged}
use Rattle.log_files.specs.Sorted.{spelled_entry, AreInOrder}
use Rattle.log_files.specs.Parts.{StartsMany}
use Rattle.log_files.proofs.sorted_bytes.take_entries.Given as goal

abbrev pub invariant-loop : goal.invariant-loop
invariant-loop l = StartsMany IsLogged AreInOrder spelled_entry l.counter l.bytes l.mutations.items l.rest
