use Rattle.std.proofs.Common.{◌≡◌, ◌++◌, map, take}
use Rattle.store_layout.specs.NewStore.{cell_of}
use Rattle.state_reader.proofs.tablet_cells.push_written.Given as goal

abbrev pub invariant-loop-update : goal.invariant-loop-update
invariant-loop-update l = l.cells.items ≡ l.initial.cells.items ++ map (cell_of l.mutation.row l.mutation.time) (take l.update-index l.update-items)
