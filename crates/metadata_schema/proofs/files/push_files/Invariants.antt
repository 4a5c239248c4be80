use Rattle.std.proofs.Common.{◌≡◌, ◌++◌, take, map}
use Rattle.metadata_schema.specs.Columns.{file_column}
use Rattle.metadata_schema.proofs.files.push_files.Given as goal

abbrev pub invariant-loop-file : goal.invariant-loop-file
invariant-loop-file l = l.columns.items ≡ l.initial.columns.items ++ map file_column (take l.file-index l.files)
