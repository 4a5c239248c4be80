use Rattle.std.proofs.Common.{◌≡◌, ◌++◌}
use Rattle.tablet_mem.specs.Index.{cells_at}
use Rattle.tablet_mem.proofs.unflushed.Unflushed.newest.Given as goal

abbrev pub invariant-loop-place : goal.invariant-loop-place
invariant-loop-place l = l.newest.items ++ cells_at l.self.cells.items l.place-iterator ≡ cells_at l.self.cells.items l.initial.place-iterator
