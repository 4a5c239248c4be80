-- The plain state as lists.
use Rattle.std.specs.Prelude.{ℕ, List, map as mapped}
use Rattle.std.specs.declared.cmp.Ordering.{Ordering}
use Rattle.std.specs.FinMap as map
use Rattle.row_keys.specs.declared.key.Key.{Key}
use Rattle.plain_model.specs.declared.operation.Pair.{Pair}
use Rattle.plain_model.specs.declared.tables.PlainTable.{PlainTable}
use Rattle.plain_model.specs.declared.tables.PlainStaged.{PlainStaged}
use Rattle.plain_model.specs.State.{PairMap, Table}

-- an item for each entry, in the order of the keys
abbrev pub listed : {K V X : Type 0} {R : K → K → Ordering} → (K × V → X) → map.FinMap R V → List X
listed item m = mapped item (map.entries m)

-- what stands in these lists for an entry: a row, a pair, a table, a file
abbrev pub point_item : List ℕ × Unit {0} → List ℕ
point_item entry = entry.0

abbrev pub pair_item : Key × List ℕ → Pair
pair_item entry = record { key = entry.0; value = entry.1 }

abbrev pub table_item : List ℕ × Table → PlainTable
table_item entry = record { id = entry.0; name = entry.1.name; splits = listed point_item entry.1.points; pairs = listed pair_item entry.1.pairs }

abbrev pub staged_item : List ℕ × PairMap → PlainStaged
staged_item entry = record { name = entry.0; pairs = listed pair_item entry.1 }
