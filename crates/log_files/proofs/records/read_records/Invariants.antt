use Rattle.std.proofs.Common.{take}
use Rattle.log_files.specs.Parts.{AreMutations}
use Rattle.log_files.proofs.records.read_records.Given as goal

abbrev pub invariant-loop-record : goal.invariant-loop-record
invariant-loop-record l = AreMutations (take l.record-index l.records) l.mutations.items
