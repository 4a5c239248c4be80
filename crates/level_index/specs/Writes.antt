-- What a row of a level becomes by updates of its columns.
use Rattle.std.specs.Prelude.{◌≡◌, ◌≢◌, ℕ, List, ◌++◌, map, Option, Some}
use Rattle.metadata_schema.specs.declared.mutation.Update.{Update}
use Rattle.metadata_schema.specs.Between.{column_after}
use Rattle.metadata_schema.specs.Columns.{update_at, column_at}
use Rattle.cell_merge.specs.declared.cell.Cell.{Cell}
use Rattle.store_layout.specs.NewStore.{cell_of}
use Rattle.store_meaning.specs.Levels.{Level}
use Rattle.store_meaning.specs.RowWrites.{LevelRow, MayStand, place_of, columns_in, columns_to, with_level_row}
use Rattle.state_reader.specs.declared.level.LevelKind.{LevelKind}
use Rattle.state_reader.specs.LevelRows.{IsOfKind}
use Rattle.level_index.specs.declared.entry.LevelEntry.{LevelEntry}
use Rattle.level_index.specs.declared.pending.WriteFault.{WriteFault}
use Rattle.level_index.specs.declared.pending.WriteFault.TheVariants.{NoRow, BadColumns, NoMemory}
use Rattle.level_index.specs.Entries.{LevelMap, level_of, entry_of, IsRowOf}
use Rattle.level_index.specs.Value.{PreparedLevel}

-- ---- by the columns that the row has

-- the updates make of these columns of the row those that it is to have, and what it is to have is of its form
pub record GivesRow (is_of : List ℕ → Type 0) (columns : List Update) (row : List ℕ) (updates : List Update) (to : LevelRow) : Type 0 where
  pub place : row ≡ place_of to
  pub gives : (family qualifier : List ℕ) → column_after updates columns family qualifier ≡ column_at (columns_to to) family qualifier
  pub form : MayStand is_of to

-- the entry of the row that the updates give, or none
pub record GivesEntry (kind : LevelKind) (columns : List Update) (row : List ℕ) (updates : List Update) (entry : Option LevelEntry) : Type 0 where
  pub to : LevelRow
  pub gives : GivesRow (IsOfKind kind) columns row updates to
  pub is : entry ≡ entry_of to

-- the row is one of the level, and the updates give no row of it
pub record GivesNone (kind : LevelKind) (columns : List Update) (row : List ℕ) (updates : List Update) : Type 0 where
  pub row_of : IsRowOf kind row
  pub none : (to : LevelRow) → GivesRow (IsOfKind kind) columns row updates to → ⊥

-- the cells of a row that has these columns and then gets these updates
abbrev pub updated_cells : List Update → List ℕ → List Update → List Cell
updated_cells columns row updates = map (cell_of row 0) columns ++ map (cell_of row 1) updates

-- the row is none of such a level, or memory wants
abbrev pub IsNoRowCause : LevelKind → List ℕ → WriteFault → Type 0
IsNoRowCause kind row NoRow = IsRowOf kind row → ⊥
IsNoRowCause kind row BadColumns = ⊥
IsNoRowCause kind row NoMemory = Unit {0}

-- why there is no entry; want of memory is free
abbrev pub EntryCause : LevelKind → List Update → List ℕ → List Update → WriteFault → Type 0
EntryCause kind columns row updates NoRow = IsRowOf kind row → ⊥
EntryCause kind columns row updates BadColumns = GivesNone kind columns row updates
EntryCause kind columns row updates NoMemory = Unit {0}

-- ---- by the level

-- the updates make this row of the level
abbrev pub MakesRow : (List ℕ → Type 0) → Level → List ℕ → List Update → LevelRow → Type 0
MakesRow is_of level row updates to = GivesRow is_of (columns_in level to) row updates to

-- each of the updates changes the value of its column
pub record HaveNoIdle (updates columns : List Update) : Type 0 where
  pub changes : (family qualifier : List ℕ) (value : Option (List ℕ)) → update_at updates family qualifier ≡ Some value → value ≢ column_at columns family qualifier

-- the entry of the row that the updates make, or none
pub record MakesEntry (index : LevelMap) (row : List ℕ) (updates : List Update) (entry : Option LevelEntry) : Type 0 where
  pub to : LevelRow
  pub makes : MakesRow (IsOfKind index.kind) (level_of index) row updates to
  pub is : entry ≡ entry_of to

-- before it is the index, and behind it the index of the level with the row that the updates make
pub record Prepares (index : LevelMap) (row : List ℕ) (updates : List Update) (prepared : PreparedLevel) : Type 0 where
  pub before : prepared.before ≡ index
  pub kind : prepared.after.kind ≡ index.kind
  pub to : LevelRow
  pub makes : MakesRow (IsOfKind index.kind) (level_of index) row updates to
  pub level : level_of prepared.after ≡ with_level_row (level_of index) to

-- the row is one of the level, and the updates make no row of it
pub record MakesNone (index : LevelMap) (row : List ℕ) (updates : List Update) : Type 0 where
  pub row_of : IsRowOf index.kind row
  pub none : (to : LevelRow) → MakesRow (IsOfKind index.kind) (level_of index) row updates to → ⊥

-- why a row isn't written; want of memory is free
abbrev pub WriteCause : LevelMap → List ℕ → List Update → WriteFault → Type 0
WriteCause index row updates NoRow = IsRowOf index.kind row → ⊥
WriteCause index row updates BadColumns = MakesNone index row updates
WriteCause index row updates NoMemory = Unit {0}
