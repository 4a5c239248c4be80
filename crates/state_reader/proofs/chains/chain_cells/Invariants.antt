use Rattle.std.proofs.Common.{◌≡◌, Some, take}
use Rattle.level_rows.specs.Chain.{rows_of}
use Rattle.store_meaning.specs.Content.{contents_of}
use Rattle.state_reader.specs.Still.{ground_of}
use Rattle.state_reader.proofs.chains.chain_cells.Given as goal

abbrev pub invariant-loop-tablet : goal.invariant-loop-tablet
invariant-loop-tablet l = contents_of (ground_of l.still) (rows_of l.table l.records) (take l.tablet-index l.chain) ≡ Some l.all.items
