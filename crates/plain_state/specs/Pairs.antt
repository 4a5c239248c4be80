-- The pairs of a staged file.
use Rattle.std.specs.Prelude.{◌≡◌, ◌≢◌, ℕ, List, Some, None, map as mapped}
use Rattle.std.specs.FinMap as map
use Rattle.row_keys.specs.declared.key.Key.{Key}
use Rattle.plain_model.specs.declared.operation.Pair.{Pair}
use Rattle.plain_model.specs.State.{PairMap, PlainState}
use Rattle.cell_merge.specs.declared.cell.Cell.{Cell}
use Rattle.cell_merge.specs.declared.cell.Pair.{Pair as CellPair}
use Rattle.cell_merge.specs.Newest.{newest_at, IsNewest}

-- a pair of cells as one of a table
abbrev pub plain_pair : CellPair → Pair
plain_pair pair = record { key = pair.key; value = pair.value }

-- the pairs are the newest of these cells
pub record ArePairsOf (cells : List Cell) (pairs : List Pair) : Type 0 where
  pub newest : List CellPair
  pub is : IsNewest cells newest
  pub are : pairs ≡ mapped plain_pair newest

-- a file of this name comes, with the newest of these cells; nothing else changes
pub record Stages (name : List ℕ) (cells : List Cell) (old new : PlainState) : Type 0 where
  pub file : PairMap
  pub none : map.get old.staged name ≡ None
  pub is : new.staged ≡ map.insert old.staged name file
  pub pairs : (key : Key) → map.get file key ≡ newest_at cells key
  pub tables : new.tables ≡ old.tables
