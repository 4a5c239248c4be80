-- A flush: what is in memory goes into a file, and the bar is raised past it.
use Rattle.std.specs.Prelude.{◌≡◌, ◌⊎◌, ◌↔◌, ℕ, ◌≤◌, true, List, [], Option, Some, None, Contains}
use Rattle.std.specs.Option.{option_map}
use Rattle.metadata_schema.specs.declared.tablet.FileEntry.{FileEntry}
use Rattle.metadata_schema.specs.declared.tablet.TabletRecord.{TabletRecord}
use Rattle.cell_merge.specs.declared.cell.Cell.{Cell}
use Rattle.cell_merge.specs.Newest.{clipped, IsMerged}
use Rattle.store_meaning.specs.Ground.{Ground}
use Rattle.store_meaning.specs.Content.{all_told, log_cells, logs_of}

-- what a tablet has in memory: the cells of its logs past its bar, within its extent from this lower bound
abbrev pub memory_of : Ground → Option (List ℕ) → TabletRecord → Option (List Cell)
memory_of known low tablet = option_map (clipped low tablet.end) (all_told (log_cells known tablet) (logs_of tablet))

-- the same tablet, which names no further logs
pub record IsSameTablet (old new : TabletRecord) : Type 0 where
  pub table : new.table ≡ old.table
  pub end : new.end ≡ old.end
  pub logs : (log : List ℕ) → Contains (logs_of new) log → Contains (logs_of old) log

-- The new record names a file of the newest cells in memory, with removals, and its bar is at the greatest time in memory or past it.
pub record Flushes (known : Ground) (low : Option (List ℕ)) (old new : TabletRecord) : Type 0 where
  pub same : IsSameTablet old new
  pub memory : List Cell
  pub in_memory : memory_of known low old ≡ Some memory
  pub file : FileEntry
  pub own_times : file.time ≡ None
  pub cells : List Cell
  pub told : known.cells_of file.path ≡ Some cells
  pub newest : IsMerged memory true cells
  pub files : (other : FileEntry) → Contains new.files other ↔ (Contains old.files other ⊎ (file ≡ other))
  pub bar : old.time ≤ new.time
  pub past : (cell : Cell) → Contains memory cell → cell.time ≤ new.time

-- With nothing in memory the new record has the same files, and its bar isn't lower.
pub record FlushesNothing (known : Ground) (low : Option (List ℕ)) (old new : TabletRecord) : Type 0 where
  pub same : IsSameTablet old new
  pub empty : memory_of known low old ≡ Some []
  pub files : new.files ≡ old.files
  pub bar : old.time ≤ new.time
