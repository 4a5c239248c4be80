-- What is put over the pairs of one table.
use Rattle.std.specs.Prelude.{◌≡◌, ◌≢◌, ℕ, List, [], ◌∷◌, Option, Some, None, if◌then◌else◌}
use Rattle.std.specs.FinMap as map
use Rattle.row_keys.specs.declared.key.Key.{Key}
use Rattle.plain_model.specs.declared.operation.Op.{Op}
use Rattle.plain_model.specs.declared.operation.Op.TheVariants.{Insert, Remove}
use Rattle.plain_model.specs.State.{Table, PlainState}
use Rattle.cell_merge.specs.declared.cell.Cell.{Cell}
use Rattle.cell_merge.specs.Newest.{is_same_key, latest}
use Rattle.cell_merge.specs.Changes.{overlaid}

-- the operation that gives a key of a table this value, or none
abbrev pub value_op : List ℕ → Key → Option (List ℕ) → Op
value_op id key (Some value) = Insert id (record { key = key; value = value })
value_op id key None = Remove id key

-- what a key has with these cells over it
abbrev pub put_over : List Cell → Key → Option (List ℕ) → Option (List ℕ)
put_over cells key below = overlaid (latest cells key) below

-- what a key has when these cells are put one after another
abbrev pub put_each : List Cell → Key → Option (List ℕ) → Option (List ℕ)
put_each [] key below = below
put_each (cell ∷ more) key below = put_each more key (if is_same_key cell.key key then cell.value else below)

-- each key of the table has what comes of what it had; its name and its split points stay, and so do other tables and staged files
pub record PutsOver (id : List ℕ) (over : Key → Option (List ℕ) → Option (List ℕ)) (old new : PlainState) : Type 0 where
  pub table : Table
  pub there : map.get old.tables id ≡ Some table
  pub changed : Table
  pub is : map.get new.tables id ≡ Some changed
  pub name : changed.name ≡ table.name
  pub points : changed.points ≡ table.points
  pub pairs : (key : Key) → map.get changed.pairs key ≡ over key (map.get table.pairs key)
  pub others : (other : List ℕ) → other ≢ id → map.get new.tables other ≡ map.get old.tables other
  pub staged : new.staged ≡ old.staged
