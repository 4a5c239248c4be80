-- What a plain store keeps.
use Rattle.std.specs.Prelude.{◌≡◌, ℕ, List, map as mapped}
use Rattle.std.specs.FinMap as map
use Rattle.plain_model.specs.declared.operation.Pair.{Pair}
use Rattle.plain_model.specs.declared.tables.PlainTable.{PlainTable}
use Rattle.plain_model.specs.declared.tables.PlainStaged.{PlainStaged}
use Rattle.plain_model.specs.declared.store.PlainStore.TheInside.{Inside}
use Rattle.plain_model.specs.State.{PointSet, PairMap, Table, PlainState}
use Rattle.plain_model.specs.Apply.{entries_of}
use Rattle.plain_model.specs.Listed.{listed, table_item, staged_item}

-- what a list of pairs, of rows, of tables or of files says
abbrev pub pairs_of : List Pair → PairMap
pairs_of pairs = map.from_sorted (entries_of pairs)

abbrev pub points_of : List (List ℕ) → PointSet
points_of rows = map.from_sorted (mapped (λ row. (row, tt)) rows)

abbrev pub table_entry : PlainTable → List ℕ × Table
table_entry table = (table.id, record { name = table.name; points = points_of table.splits; pairs = pairs_of table.pairs })

abbrev pub staged_entry : PlainStaged → List ℕ × PairMap
staged_entry file = (file.name, pairs_of file.pairs)

-- the plain state that a store's lists say
abbrev pub view_of : Inside → PlainState
view_of inside = record {
  tables = map.from_sorted (mapped table_entry inside.tables.items);
  staged = map.from_sorted (mapped staged_entry inside.staged.items);
}

-- each list is that of its map
pub record IsInOrder (inside : Inside) : Type 0 where
  pub tables : inside.tables.items ≡ listed table_item (view_of inside).tables
  pub staged : inside.staged.items ≡ listed staged_item (view_of inside).staged
