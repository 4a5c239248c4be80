use Rattle.std.proofs.Common.{◌≡◌, ◌++◌, map, take}
use Rattle.store_layout.specs.NewStore.{cell_of}
use Rattle.log_writes.proofs.cells.push_cells.Given as goal

abbrev pub invariant-loop-update : goal.invariant-loop-update
invariant-loop-update l = l.cells.items ≡ l.fn.cells.items ++ map (cell_of l.row l.time) (take l.update-index l.updates)
