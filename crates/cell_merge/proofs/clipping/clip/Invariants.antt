use Rattle.std.proofs.Common.{◌≡◌, take}
use Rattle.cell_merge.specs.Newest.{clipped}
use Rattle.cell_merge.proofs.clipping.clip.Given as goal

abbrev pub invariant-loop-cell : goal.invariant-loop-cell
invariant-loop-cell l = l.inside.items ≡ clipped l.extent.prev l.extent.end (take l.cell-index l.cells)
