-- What updates of its columns make of the root tablet's record.
use Rattle.std.specs.Prelude.{◌≡◌, ℕ, List, ◌++◌, map, None}
use Rattle.metadata_schema.specs.declared.fault.SchemaFault.{SchemaFault}
use Rattle.metadata_schema.specs.declared.fault.SchemaFault.TheVariants as schema
use Rattle.metadata_schema.specs.declared.mutation.Update.{Update}
use Rattle.metadata_schema.specs.declared.tablet.TabletRecord.{TabletRecord}
use Rattle.metadata_schema.specs.Between.{column_after}
use Rattle.metadata_schema.specs.Columns.{columns_of, column_at}
use Rattle.cell_merge.specs.declared.cell.Cell.{Cell}
use Rattle.store_layout.specs.NewStore.{cell_of}
use Rattle.store_meaning.specs.Levels.{IsRecordAt, root_id}
use Rattle.log_writes.specs.declared.fault.RootFault.{RootFault}
use Rattle.log_writes.specs.declared.fault.RootFault.TheVariants.{BadColumns, NoMemory}

-- a record of the root tablet, whose columns are those of the old one once they got the updates
pub record UpdatesRoot (old : TabletRecord) (updates : List Update) (new : TabletRecord) : Type 0 where
  pub at : IsRecordAt root_id None new
  pub gives : (family qualifier : List ℕ) → column_after updates (columns_of old) family qualifier ≡ column_at (columns_of new) family qualifier

-- no record of the root tablet has these columns
pub record UpdatesToNone (old : TabletRecord) (updates : List Update) : Type 0 where
  pub none : (new : TabletRecord) → UpdatesRoot old updates new → ⊥

-- why there is no such record; want of memory is free
abbrev pub UpdateCause : TabletRecord → List Update → RootFault → Type 0
UpdateCause old updates BadColumns = UpdatesToNone old updates
UpdateCause old updates NoMemory = Unit {0}

-- the columns are refused, or memory wants
abbrev pub FaultOf : SchemaFault → RootFault → Type 0
FaultOf schema.NoMemory fault = fault ≡ NoMemory
FaultOf schema.NoPrev fault = fault ≡ BadColumns
FaultOf schema.BadColumn fault = fault ≡ BadColumns
FaultOf schema.BadValue fault = fault ≡ BadColumns

-- the cells of a row that has these columns and then gets these updates
abbrev pub updated_cells : List Update → List ℕ → List Update → List Cell
updated_cells columns row updates = map (cell_of row 0) columns ++ map (cell_of row 1) updates
