use Rattle.std.proofs.Common.{◌≡◌, ◌++◌}
use Rattle.level_index.specs.Ranges.{record_of}
use Rattle.level_index.proofs.ListLemmas.{picked}
use Rattle.level_index.proofs.index.LevelIndex.records_of.Given as goal

abbrev pub invariant-loop-entry : goal.invariant-loop-entry
invariant-loop-entry l = l.records.items ++ picked (record_of l.table) l.entry-iterator ≡ picked (record_of l.table) l.initial.entry-iterator
