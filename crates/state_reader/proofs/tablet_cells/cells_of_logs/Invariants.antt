use Rattle.std.proofs.Common.{◌≡◌, Some, take}
use Rattle.store_meaning.specs.Content.{all_told, log_cells}
use Rattle.state_reader.specs.Still.{ground_of}
use Rattle.state_reader.proofs.tablet_cells.cells_of_logs.Given as goal

abbrev pub invariant-loop-log : goal.invariant-loop-log
invariant-loop-log l = all_told (log_cells (ground_of l.still) l.tablet) (take l.log-index l.logs) ≡ Some l.all.items
