-- Rows as columns, among the newest pairs of some cells.
use Rattle.std.specs.Prelude.{◌≡◌, ◌↔◌, ℕ, Bool, List, Contains, filter, map}
use Rattle.std.specs.List.Sorted.{IsStrictlySortedBy}
use Rattle.row_keys.specs.Keys.{key_cmp}
use Rattle.metadata_schema.specs.declared.mutation.Update.{Update}
use Rattle.metadata_schema.specs.Bytes.{same}
use Rattle.metadata_schema.specs.Columns.{written}
use Rattle.cell_merge.specs.declared.cell.Pair.{Pair}

-- the column of a pair
abbrev pub column_of : Pair → Update
column_of pair = written pair.key.family pair.key.qualifier pair.value

-- the pair is of this row
abbrev pub is_in_row : List ℕ → Pair → Bool
is_in_row row pair = same pair.key.row row

-- the columns of a row, in the order of its pairs
abbrev pub columns_in : List Pair → List ℕ → List Update
columns_in pairs row = map column_of (filter (is_in_row row) pairs)

-- the row has a pair
pub record HasPair (pairs : List Pair) (row : List ℕ) : Type 0 where
  pub pair : Pair
  pub there : Contains pairs pair
  pub at : pair.key.row ≡ row

-- these are the rows that have a pair
pub record AreRowsOf (pairs : List Pair) (rows : List (List ℕ)) : Type 0 where
  pub each : (row : List ℕ) → Contains rows row ↔ HasPair pairs row

-- each of these rows has a pair
abbrev pub AllPaired : List Pair → List (List ℕ) → Type 0
AllPaired pairs rows = (row : List ℕ) → Contains rows row → HasPair pairs row

-- each pair's key is below the next one's
abbrev pub AreInOrder : List Pair → Type 0
AreInOrder pairs = IsStrictlySortedBy key_cmp (map (λ pair. pair.key) pairs)
