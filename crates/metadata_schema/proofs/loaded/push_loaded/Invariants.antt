use Rattle.std.proofs.Common.{◌≡◌, ◌++◌, take, map}
use Rattle.metadata_schema.specs.Columns.{loaded_column}
use Rattle.metadata_schema.proofs.loaded.push_loaded.Given as goal

abbrev pub invariant-loop-entry : goal.invariant-loop-entry
invariant-loop-entry l = l.columns.items ≡ l.initial.columns.items ++ map loaded_column (take l.entry-index l.entries)
