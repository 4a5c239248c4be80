use Rattle.std.proofs.Common.{◌≡◌, ◌++◌, map}
use Rattle.store_layout.specs.NewStore.{cell_of}
use Rattle.store_layout.proofs.new_store.push_cells.Given as goal

abbrev pub invariant-loop-column : goal.invariant-loop-column
invariant-loop-column l = l.cells.items ≡ l.fn.cells.items ++ map (cell_of l.row 1) l.yielded
