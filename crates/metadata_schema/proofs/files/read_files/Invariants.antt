use Rattle.std.proofs.Common.{◌≡◌, codes, map, take}
use Rattle.std.specs.List.{All}
use Rattle.metadata_schema.specs.Columns.{file_column}
use Rattle.metadata_schema.specs.Records.{IsFile}
use Rattle.metadata_schema.specs.Refusals.{of_family}
use Rattle.metadata_schema.proofs.files.read_files.Given as goal

abbrev pub invariant-loop-update : goal.invariant-loop-update
invariant-loop-update l = record {
  read : map file_column l.files.items ≡ of_family (codes "file") (take l.update-index l.updates);
  forms : All IsFile l.files.items;
}
