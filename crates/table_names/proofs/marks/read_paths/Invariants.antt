use Rattle.std.proofs.Common.{◌≡◌, take}
use Rattle.std.specs.List.{All}
use Rattle.metadata_schema.specs.Paths.{IsFilePath}
use Rattle.table_names.proofs.marks.read_paths.Given as goal

abbrev pub invariant-loop-word : goal.invariant-loop-word
invariant-loop-word l = record { are : l.paths.items ≡ take l.word-index l.words; forms : All IsFilePath (take l.word-index l.words) }
