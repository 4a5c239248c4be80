-- Where the newest cell of each key stands among the cells.
use Rattle.std.specs.Prelude.{◌≡◌, ◌<◌, ◌++◌, ℕ, List, [], ◌∷◌, Option, Some, None, length, slice_get}
use Rattle.std.specs.List.{filter_map}
use Rattle.std.specs.BTreeMap.{BTreeMap, get}
use Rattle.std.specs.Option.{option_and_then}
use Rattle.std.specs.Ordering.{ordering_then}
use Rattle.std.specs.declared.cmp.Ordering.{Ordering}
use Rattle.std.specs.declared.ops.Bound.{Bound}
use Rattle.std.specs.declared.ops.Bound.TheVariants.{Included, Excluded, Unbounded}
use Rattle.row_keys.specs.declared.key.Key.{Key}
use Rattle.row_keys.specs.RowOrder.{bytes_cmp}
use Rattle.cell_merge.specs.declared.cell.Cell.{Cell}
use Rattle.cell_merge.specs.Newest.{latest}
use Rattle.tablet_mem.specs.declared.spot.Spot.{Spot}

-- the spot of a key
abbrev pub spot_of : Key → Spot
spot_of key = record { row = key.row; family = key.family; qualifier = key.qualifier }

-- the order of spots, which is that of keys
abbrev pub spot_cmp : Spot → Spot → Ordering
spot_cmp a b = ordering_then (bytes_cmp a.row b.row) (ordering_then (bytes_cmp a.family b.family) (bytes_cmp a.qualifier b.qualifier))

-- the first spot past all keys of a row
abbrev pub past_row : List ℕ → Spot
past_row row = record { row = row ++ 0 ∷ []; family = []; qualifier = [] }

-- from the first spot past this row on
abbrev pub start_of : Option (List ℕ) → Bound Spot
start_of None = Unbounded
start_of (Some row) = Included (past_row row)

-- up to the first spot past this row
abbrev pub end_of : Option (List ℕ) → Bound Spot
end_of None = Unbounded
end_of (Some row) = Excluded (past_row row)

-- where cells stand among those of a memory, by their spots; a spot may be there and have no cell yet
abbrev pub Places : Type 0
Places = BTreeMap Spot (Option ℕ)

-- the place that was found
abbrev pub place_of : Option (Option ℕ) → Option ℕ
place_of found = option_and_then (λ place. place) found

-- the place that the spot has
abbrev pub place_at : Places → Spot → Option ℕ
place_at places spot = place_of (get spot_cmp places spot)

-- the cell at a place
abbrev pub cell_at : List Cell → Option ℕ → Option Cell
cell_at cells None = None
cell_at cells (Some place) = slice_get cells place

-- at each key is the place of its latest cell, and at each place one of these cells
pub record IsIndexOf (cells : List Cell) (places : Places) : Type 0 where
  pub latest_at : (key : Key) → cell_at cells (place_at places (spot_of key)) ≡ latest cells key
  pub within : (spot : Spot) (place : ℕ) → place_at places spot ≡ Some place → place < length cells

-- the cells at these places
abbrev pub cells_at : List Cell → List (Spot × Option ℕ) → List Cell
cells_at cells entries = filter_map (λ entry. cell_at cells entry.1) entries
