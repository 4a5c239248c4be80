-- What a written row makes of the index of its level.
use Rattle.std.specs.Prelude.{List, ℕ}
use Rattle.metadata_schema.specs.declared.mutation.Update.{Update}
use Rattle.store_meaning.specs.RowWrites.{LevelRow}
use Rattle.state_reader.specs.LevelRows.{IsOfKind}
use Rattle.level_index.specs.Entries.{LevelMap, level_of}
use Rattle.level_index.specs.Writes.{MakesRow, Prepares}
use Rattle.hosted_writes.specs.declared.row_updates.RowUpdates.{RowUpdates}

-- the updates make some row of the level
abbrev pub MakesSome : LevelMap → List ℕ → List Update → Type 0
MakesSome index row updates = (to : LevelRow) × MakesRow (IsOfKind index.kind) (level_of index) row updates to

-- the index is that of the level with the row that the updates make
abbrev pub WritesIndex : LevelMap → RowUpdates → LevelMap → Type 0
WritesIndex old write new = Prepares old write.row write.updates (record { before = old; after = new })
