use Rattle.std.proofs.Common.{◌≡◌}
use Rattle.std.specs.List.{filter_map}
use Rattle.cell_merge.specs.Newest.{pair_of}
use Rattle.cell_merge.proofs.merging.pairs_of.Given as goal

abbrev pub invariant-loop-cell : goal.invariant-loop-cell
invariant-loop-cell l = l.pairs.items ≡ filter_map pair_of l.yielded
