use Rattle.std.proofs.Common.{◌≡◌, map, take}
use Rattle.metadata_schema.specs.Columns.{written}
use Rattle.metadata_schema.proofs.reading_tests.columns.Given as goal

abbrev pub invariant-loop-family : goal.invariant-loop-family
invariant-loop-family l = l.columns.items ≡ map (λ cell. written cell.0.now cell.1.now cell.2.now) (take l.family-index l.cells)
