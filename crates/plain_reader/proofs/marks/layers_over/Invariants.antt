use Rattle.std.proofs.Common.{◌≡◌, Some, take}
use Rattle.level_rows.specs.Chain.{rows_of}
use Rattle.store_meaning.specs.Content.{all_told}
use Rattle.store_meaning.specs.Marked.{layer_of}
use Rattle.state_reader.specs.Still.{ground_of}
use Rattle.plain_reader.proofs.marks.layers_over.Given as goal

abbrev pub invariant-loop-path : goal.invariant-loop-path
invariant-loop-path l = all_told (layer_of (ground_of l.still) (rows_of l.table l.records) l.tablets) (take l.path-index l.paths) ≡ Some l.layers.items
