use Rattle.std.proofs.Common.{◌≡◌, codes, map, take}
use Rattle.std.specs.List.{All}
use Rattle.metadata_schema.specs.Columns.{loaded_column}
use Rattle.metadata_schema.specs.Records.{IsLoaded}
use Rattle.metadata_schema.specs.Refusals.{of_family}
use Rattle.metadata_schema.proofs.loaded.read_loaded.Given as goal

abbrev pub invariant-loop-update : goal.invariant-loop-update
invariant-loop-update l = record {
  read : map loaded_column l.entries.items ≡ of_family (codes "loaded") (take l.update-index l.updates);
  forms : All IsLoaded l.entries.items;
}
