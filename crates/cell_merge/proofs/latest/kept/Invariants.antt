use Rattle.std.proofs.Common.{◌≡◌, ◌++◌, map}
use Rattle.std.specs.List.{filter}
use Rattle.std.specs.Map.Iter.{deref}
use Rattle.cell_merge.specs.Newest.{is_kept}
use Rattle.cell_merge.specs.Index.{cells_of}
use Rattle.cell_merge.proofs.latest.kept.Given as goal

abbrev pub invariant-loop-cell : goal.invariant-loop-cell
invariant-loop-cell l = l.kept.items ++ filter (is_kept l.keep_removed) (map deref l.cell-iterator) ≡ filter (is_kept l.keep_removed) (cells_of l.fn.latest)
