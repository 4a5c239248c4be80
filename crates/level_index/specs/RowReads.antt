-- What single rows of pairs tell, and how the pairs of one row are told from those behind them.
use Rattle.std.specs.Prelude.{◌≡◌, ◌≢◌, ◌⊎◌, ℕ, codes, List, ◌∷◌, ◌++◌, Option, Some, None, MatchOption, Contains}
use Rattle.std.specs.FinMap as map
use Rattle.cell_merge.specs.declared.cell.Cell.{Cell}
use Rattle.cell_merge.specs.declared.cell.Pair.{Pair}
use Rattle.store_meaning.specs.Levels.{SpellsRow}
use Rattle.state_reader.specs.declared.level.LevelKind.{LevelKind}
use Rattle.state_reader.specs.Columns.{columns_in, HasPair}
use Rattle.level_index.specs.declared.entry.LevelEntry.{LevelEntry}
use Rattle.level_index.specs.Entries.{Entries, StandsAt, IsRowOf, entry_columns}

-- the entry stands at its own row, and the columns of the row are its columns
pub record IsEntryIn (kind : LevelKind) (pairs : List Pair) (row : List ℕ) (entry : LevelEntry) : Type 0 where
  pub stands : StandsAt kind row entry
  pub columns : columns_in pairs row ≡ entry_columns entry

-- the entry of the row, or none where the row is none of such a level
abbrev pub IsFoundIn : LevelKind → List Pair → List ℕ → Option LevelEntry → Type 0
IsFoundIn kind pairs row found = MatchOption found (IsRowOf kind row → ⊥) (IsEntryIn kind pairs row)

abbrev pub BeginWith : List ℕ → List ℕ → Type 0
BeginWith front bytes = (rest : List ℕ) × (bytes ≡ front ++ rest)

-- the row is one of a path to be deleted, or of a path that is loaded
abbrev pub IsMarked : List ℕ → Type 0
IsMarked row = BeginWith (codes "~del") row ⊎ BeginWith (codes "~blip") row

-- the pairs of this row in front, and those behind them, which begin with another row
pub record IsFirstRow (row : List ℕ) (pairs group more : List Pair) : Type 0 where
  pub parts : pairs ≡ group ++ more
  pub each : (pair : Pair) → Contains group pair → pair.key.row ≡ row
  pub next : (pair : Pair) (rest : List Pair) → more ≡ pair ∷ rest → pair.key.row ≢ row

-- what the cells tell of each row that has one of these pairs stands there, and nothing else
pub record IsReadTo (kind : LevelKind) (cells : List Cell) (pairs : List Pair) (entries : Entries) : Type 0 where
  pub stands : (row : List ℕ) (entry : LevelEntry) → map.get entries row ≡ Some entry → StandsAt kind row entry
  pub told : (row : List ℕ) (entry : LevelEntry) → map.get entries row ≡ Some entry → SpellsRow cells row (entry_columns entry)
  pub none : (row : List ℕ) → map.get entries row ≡ None → HasPair pairs row → IsRowOf kind row → ⊥
