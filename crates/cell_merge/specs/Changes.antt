-- How some cells come to be others, by membership alone.
use Rattle.std.specs.Prelude.{◌≡◌, ◌⊎◌, ◌<◌, ◌≤◌, List, Option, Some, None, Contains}
use Rattle.row_keys.specs.declared.key.Key.{Key}
use Rattle.cell_merge.specs.declared.cell.Cell.{Cell}
use Rattle.cell_merge.specs.Newest.{Bytes}

-- no two different cells have the same key and time
pub record AreConsistent (cells : List Cell) : Type 0 where
  pub one : (a b : Cell) → Contains cells a → Contains cells b → a.key ≡ b.key → a.time ≡ b.time → a ≡ b

-- the cell is of this key, and none of that key is later
pub record IsLatestAt (cells : List Cell) (key : Key) (cell : Cell) : Type 0 where
  pub there : Contains cells cell
  pub at : cell.key ≡ key
  pub last : (other : Cell) → Contains cells other → other.key ≡ key → other.time ≤ cell.time

-- this one of the cells is of the same key, and as late
pub record IsAsLate (cells : List Cell) (cell other : Cell) : Type 0 where
  pub there : Contains cells other
  pub key : other.key ≡ cell.key
  pub time : cell.time ≤ other.time

-- this removal is of the same key and as late, and the fewer cells have none of that key
pub record IsDropped (fewer all : List Cell) (cell removal : Cell) : Type 0 where
  pub late : IsAsLate all cell removal
  pub removes : removal.value ≡ None
  pub none : (other : Cell) → Contains fewer other → other.key ≡ cell.key → ⊥

-- fewer cells that leave each key what it has: each that is missing has one as late among them, or is dropped
pub record Covers (fewer all : List Cell) : Type 0 where
  pub within : (cell : Cell) → Contains fewer cell → Contains all cell
  pub covered : (cell : Cell) → Contains all cell → ((other : Cell) × IsAsLate fewer cell other) ⊎ ((removal : Cell) × IsDropped fewer all cell removal)

-- the cells that were there and fresh ones, each later than those of its key
pub record Gains (fresh old new : List Cell) : Type 0 where
  pub from : (cell : Cell) → Contains new cell → Contains old cell ⊎ Contains fresh cell
  pub keeps : (cell : Cell) → Contains old cell → Contains new cell
  pub gains : (cell : Cell) → Contains fresh cell → Contains new cell
  pub later : (was is : Cell) → Contains old was → Contains fresh is → was.key ≡ is.key → was.time < is.time

-- what a key has with this cell over it
abbrev pub overlaid : Option Cell → Option Bytes → Option Bytes
overlaid None below = below
overlaid (Some cell) below = cell.value
