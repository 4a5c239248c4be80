use Rattle.std.proofs.Common.{◌≡◌, ◌++◌}
use Rattle.level_index.specs.Ranges.{candidate_of}
use Rattle.level_index.proofs.ListLemmas.{picked}
use Rattle.level_index.proofs.index.LevelIndex.candidates.Given as goal

abbrev pub invariant-loop-entry : goal.invariant-loop-entry
invariant-loop-entry l = l.paths.items ++ picked candidate_of l.entry-iterator ≡ picked candidate_of l.initial.entry-iterator
