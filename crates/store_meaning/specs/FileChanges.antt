-- Files of a tablet are replaced by others, as by a compaction or a chop.
use Rattle.std.specs.Prelude.{◌≡◌, ℕ, ◌≤◌, List, Option, Some, None, Contains}
use Rattle.std.specs.Option.{option_map}
use Rattle.metadata_schema.specs.declared.tablet.TabletRecord.{TabletRecord}
use Rattle.cell_merge.specs.declared.cell.Cell.{Cell}
use Rattle.cell_merge.specs.Newest.{clipped}
use Rattle.store_meaning.specs.Ground.{Ground}
use Rattle.store_meaning.specs.Content.{all_told, file_cells, logs_of}
use Rattle.store_meaning.specs.ChainWrites.{HasCovered}
use Rattle.store_meaning.specs.Flushes.{memory_of}

-- the cells of a tablet's files, within its extent from this lower bound
abbrev pub stored_of : Ground → Option (List ℕ) → TabletRecord → Option (List Cell)
stored_of known low tablet = option_map (clipped low tablet.end) (all_told (file_cells known) tablet.files)

-- The same tablet, bar and logs. The cells of the new files leave each key what those of the old ones gave it, and no removal in an old
-- file is later than a cell in memory of its key: else one that goes could bring a value back.
pub record ReplacesFiles (known : Ground) (low : Option (List ℕ)) (old new : TabletRecord) : Type 0 where
  pub table : new.table ≡ old.table
  pub end : new.end ≡ old.end
  pub bar : new.time ≡ old.time
  pub logs : logs_of new ≡ logs_of old
  pub stored : List Cell
  pub in_files : stored_of known low old ≡ Some stored
  pub covered : HasCovered stored (stored_of known low new)
  pub memory : List Cell
  pub in_memory : memory_of known low old ≡ Some memory
  pub removals : (removal cell : Cell) → Contains stored removal → removal.value ≡ None → Contains memory cell → cell.key ≡ removal.key → removal.time ≤ cell.time
