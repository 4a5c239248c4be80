use Rattle.std.proofs.Common.{◌≡◌, take}
use Rattle.level_rows.specs.Chain.{rows_of}
use Rattle.store_meaning.specs.Marked.{cells_within}
use Rattle.plain_reader.proofs.marks.cells_within.Given as goal

abbrev pub invariant-loop-tablet : goal.invariant-loop-tablet
invariant-loop-tablet l = l.within.items ≡ cells_within (rows_of l.table l.records) (take l.tablet-index l.tablets) l.cells
