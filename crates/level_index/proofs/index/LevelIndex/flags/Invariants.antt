use Rattle.std.proofs.Common.{◌≡◌, ◌++◌}
use Rattle.level_index.specs.Ranges.{flag_of}
use Rattle.level_index.proofs.ListLemmas.{picked}
use Rattle.level_index.proofs.index.LevelIndex.flags.Given as goal

abbrev pub invariant-loop-entry : goal.invariant-loop-entry
invariant-loop-entry l = l.flags.items ++ picked flag_of l.entry-iterator ≡ picked flag_of l.initial.entry-iterator
