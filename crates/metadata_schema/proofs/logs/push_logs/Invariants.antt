use Rattle.std.proofs.Common.{◌≡◌, ◌++◌, take, map}
use Rattle.metadata_schema.specs.Columns.{log_column}
use Rattle.metadata_schema.proofs.logs.push_logs.Given as goal

abbrev pub invariant-loop-log : goal.invariant-loop-log
invariant-loop-log l = l.columns.items ≡ l.initial.columns.items ++ map log_column (take l.log-index l.logs)
