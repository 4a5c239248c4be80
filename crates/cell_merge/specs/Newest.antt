-- The newest of some cells. It knows nothing of how cells are sorted, merged or kept.
use Rattle.std.specs.Prelude.{◌≡◌, ◌↔◌, ℕ, ◌||◌, nat_lt, Bool, List, [], ◌∷◌, Option, Some, None, is_some, IsTrue, Contains, filter, map, if◌then◌else◌}
use Rattle.std.specs.List.{flat_map}
use Rattle.std.specs.List.Sorted.{IsStrictlySortedBy}
use Rattle.std.specs.Option.{option_and_then, option_map}
use Rattle.std.specs.Ordering.{is_eq}
use Rattle.row_keys.specs.declared.key.Key.{Key}
use Rattle.row_keys.specs.Keys.{key_cmp}
use Rattle.row_keys.specs.RowOrder.{is_within}
use Rattle.cell_merge.specs.declared.cell.Cell.{Cell}
use Rattle.cell_merge.specs.declared.cell.Pair.{Pair}

-- bytes
abbrev pub Bytes : Type 0
Bytes = List ℕ

-- the same row, family and qualifier
abbrev pub is_same_key : Key → Key → Bool
is_same_key a b = is_eq (key_cmp a b)

-- the later of two cells, and of two of one time the first
abbrev pub later : Option Cell → Option Cell → Option Cell
later None second = second
later (Some first) None = Some first
later (Some first) (Some second) = if nat_lt first.time second.time then Some second else Some first

-- the cell of greatest time at a key
abbrev pub latest : List Cell → Key → Option Cell
latest [] key = None
latest (cell ∷ cells) key = later (if is_same_key cell.key key then Some cell else None) (latest cells key)

-- what a key has: the value of its cell of greatest time, where that is no removal
abbrev pub newest_at : List Cell → Key → Option Bytes
newest_at cells key = option_and_then (λ cell. cell.value) (latest cells key)

-- the pairs are the keys that have a value, each with that value, in key order
pub record IsNewest (cells : List Cell) (pairs : List Pair) : Type 0 where
  pub rising : IsStrictlySortedBy key_cmp (map (λ pair. pair.key) pairs)
  pub each : (pair : Pair) → Contains pairs pair ↔ (newest_at cells pair.key ≡ Some pair.value)

-- each key is below the next one
abbrev pub HaveRisingKeys : List Cell → Type 0
HaveRisingKeys cells = IsStrictlySortedBy key_cmp (map (λ cell. cell.key) cells)

-- a cell with a value is kept, and a removal where those are
abbrev pub is_kept : Bool → Cell → Bool
is_kept keep_removed cell = keep_removed || is_some cell.value

-- the cells of greatest time, of each key one and in key order, with or without removals
pub record IsMerged (cells : List Cell) (keep_removed : Bool) (merged : List Cell) : Type 0 where
  pub rising : HaveRisingKeys merged
  pub each : (cell : Cell) → Contains merged cell ↔ ((latest cells cell.key ≡ Some cell) × IsTrue (is_kept keep_removed cell))

-- the cells of all sources
abbrev pub joined : List (List Cell) → List Cell
joined sources = flat_map (λ cells. cells) sources

-- the cells whose rows lie in (low, high]
abbrev pub clipped : Option Bytes → Option Bytes → List Cell → List Cell
clipped low high cells = filter (λ cell. is_within low high cell.key.row) cells

-- the key and the value of a cell that has one
abbrev pub pair_of : Cell → Option Pair
pair_of cell = option_map (λ value. record { key = cell.key; value = value }) cell.value
