use Rattle.std.proofs.Common.{◌≡◌, codes, map, take}
use Rattle.std.specs.List.{All}
use Rattle.row_keys.specs.Forms.{IsLogName}
use Rattle.metadata_schema.specs.Columns.{log_column}
use Rattle.metadata_schema.specs.Refusals.{of_family}
use Rattle.metadata_schema.proofs.logs.read_logs.Given as goal

abbrev pub invariant-loop-update : goal.invariant-loop-update
invariant-loop-update l = record {
  read : map log_column l.logs.items ≡ of_family (codes "log") (take l.update-index l.updates);
  forms : All IsLogName l.logs.items;
}
