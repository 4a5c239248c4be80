use Rattle.std.proofs.Common.{◌≡◌, map, take}
use Rattle.tablet_mem.specs.Memory.{cell_of}
use Rattle.tablet_mem.specs.Room.{ready_of}
use Rattle.tablet_mem.proofs.ready.ready_cells.Given as goal

abbrev pub invariant-loop-update : goal.invariant-loop-update
invariant-loop-update l = l.ready.items ≡ map ready_of (map (cell_of l.mutation.row l.mutation.time) (take l.update-index l.update-items))
