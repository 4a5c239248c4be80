-- The first writes of a new store: what is asked of writes can be met.
use Rattle.std.specs.Prelude.{◌≡◌, ℕ, List, [], ◌∷◌, Some, None}
use Rattle.metadata_schema.specs.declared.mutation.Mutation.{Mutation}
use Rattle.metadata_schema.specs.declared.tablet.Holder.{Holder}
use Rattle.metadata_schema.specs.declared.tablet.TabletRecord.{TabletRecord}
use Rattle.store_layout.specs.NewStore.{table_info, last_metadata}
use Rattle.store_meaning.specs.Ground.{Ground, with_cells}
use Rattle.store_meaning.specs.Content.{cells_of_mutation}
use Rattle.store_meaning.specs.Levels.{Reading}
use Rattle.store_meaning.specs.Readable.{IsReadAs}
use Rattle.store_meaning.specs.Writes.{appended}
use Rattle.store_meaning.specs.RowWrites.{RecordRow, RowWrite, row_written, WritesUserRow, user_row_written}
use Rattle.store_meaning.specs.ChainWrites.{RecordChange, RewritesMetadataTablet, RewritesUserTablet, PutsCells}
use Rattle.store_meaning.specs.Flushes.{Flushes}
use Rattle.store_meaning.specs.Naming.{RowNamesKnown, IsUnsorted}

-- `!0;~` is given this holder for its `future`
abbrev pub first_future : Holder → RecordChange
first_future holder = record { above = last_metadata ∷ []; old = table_info; new = record table_info { future = Some holder }; below = [] }

-- A ground that can be read, in which this server holds the root tablet, and a mutation in its log that does so.
pub record AssignsFirst (holder : Holder) : Type 0 where
  pub known : Ground
  pub reading : Reading
  pub is : IsReadAs reading known
  pub held : reading.root.loc ≡ Some holder
  pub write : RowWrite
  pub writes : RewritesMetadataTablet known reading write (first_future holder)
  pub names : RowNamesKnown known write.row
  pub unsorted : IsUnsorted known write.log

-- A ground that can be read, in which this server holds the first tablet of `!0`, and mutations in its log: one writes the first record
-- of a table, one puts cells in it, and, once a file of these is there, one flushes the tablet.
pub record WritesFirst (holder : Holder) : Type 0 where
  pub known : Ground
  pub reading : Reading
  pub is : IsReadAs reading known
  pub log : List ℕ
  pub unsorted : IsUnsorted known log
  -- the record
  pub write : RowWrite
  pub in_log : write.log ≡ log
  pub writes : WritesUserRow known reading write
  pub names : RowNamesKnown known write.row
  -- the cells
  pub tablet : TabletRecord
  pub row : write.row ≡ RecordRow tablet.table tablet.end (Some tablet)
  pub mutation : Mutation
  pub puts : PutsCells (row_written known write) (user_row_written known reading write) log mutation (tablet ∷ [])
  -- the flush
  pub path : List ℕ
  pub flushed : TabletRecord
  pub flush : RowWrite
  pub rewrites : RewritesUserTablet (with_cells (appended (row_written known write) log mutation) path (Some (cells_of_mutation mutation))) (user_row_written known reading write) flush
      (record { above = []; old = tablet; new = flushed; below = [] })
  pub flushes : Flushes (with_cells (appended (row_written known write) log mutation) path (Some (cells_of_mutation mutation))) None tablet flushed
  pub flush_names : RowNamesKnown (with_cells (appended (row_written known write) log mutation) path (Some (cells_of_mutation mutation))) flush.row
