use Rattle.std.proofs.Common.{◌≡◌, take}
use Rattle.std.specs.List.{flat_map, filter}
use Rattle.store_meaning.specs.Content.{cells_of_mutation, counts_for}
use Rattle.state_reader.proofs.tablet_cells.counted_cells.Given as goal

abbrev pub invariant-loop-mutation : goal.invariant-loop-mutation
invariant-loop-mutation l = l.cells.items ≡ flat_map cells_of_mutation (filter (counts_for l.tablet) (take l.mutation-index l.mutations))
