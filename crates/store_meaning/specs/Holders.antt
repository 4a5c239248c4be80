-- Records whose cells are the same, or a part: holders and logs alone change, as with a `future`, a `loc`, a load, a dead server's log
-- or an unload, or the extent is narrower.
use Rattle.std.specs.Prelude.{◌≡◌, ◌⊎◌, ◌↔◌, ℕ, false, true, List, Option, Some, IsTrue, Contains}
use Rattle.row_keys.specs.RowOrder.{is_within, is_above}
use Rattle.metadata_schema.specs.declared.mutation.Mutation.{Mutation}
use Rattle.metadata_schema.specs.declared.tablet.TabletRecord.{TabletRecord}
use Rattle.cell_merge.specs.declared.cell.Cell.{Cell}
use Rattle.level_rows.specs.Chain.{IsBelowEnd}
use Rattle.store_meaning.specs.Ground.{Ground}
use Rattle.store_meaning.specs.Content.{logs_of}
use Rattle.store_meaning.specs.Writes.{counts_in}

-- the log is told, and none of its mutations counts in the tablet
pub record HoldsNothingFor (known : Ground) (low : Option (List ℕ)) (tablet : TabletRecord) (log : List ℕ) : Type 0 where
  pub mutations : List Mutation
  pub told : known.mutations_of log ≡ Some mutations
  pub none : (mutation : Mutation) → Contains mutations mutation → counts_in low tablet mutation ≡ false

-- the same table, end row, bar and files; each log that comes or goes holds nothing for the tablet
pub record ChangesHolders (known : Ground) (low : Option (List ℕ)) (old new : TabletRecord) : Type 0 where
  pub table : new.table ≡ old.table
  pub end : new.end ≡ old.end
  pub bar : new.time ≡ old.time
  pub files : new.files ≡ old.files
  pub comes : (log : List ℕ) → Contains (logs_of new) log → Contains (logs_of old) log ⊎ HoldsNothingFor known low old log
  pub goes : (log : List ℕ) → Contains (logs_of old) log → Contains (logs_of new) log ⊎ HoldsNothingFor known low old log

-- these are told, and are the same cells in some order
pub record HasSameCells (old : List Cell) (told : Option (List Cell)) : Type 0 where
  pub cells : List Cell
  pub is : told ≡ Some cells
  pub each : (cell : Cell) → Contains cells cell ↔ Contains old cell

-- the same table, bar, files and logs, whatever the extents
pub record SharesCells (one other : TabletRecord) : Type 0 where
  pub table : other.table ≡ one.table
  pub bar : other.time ≡ one.time
  pub files : other.files ≡ one.files
  pub logs : logs_of other ≡ logs_of one

-- each row of the one range lies in the other
pub record IsNarrower (low high within_low within_high : Option (List ℕ)) : Type 0 where
  pub inside : (row : List ℕ) → is_within within_low within_high row ≡ true → is_within low high row ≡ true

-- a tablet above this lower bound, and two that share its cells: one above this row, and one up to it
pub record AreHalves (low : Option (List ℕ)) (at : List ℕ) (whole high lower : TabletRecord) : Type 0 where
  pub above : IsTrue (is_above low at)
  pub below : IsBelowEnd at whole.end
  pub high_cells : SharesCells whole high
  pub high_end : high.end ≡ whole.end
  pub lower_cells : SharesCells whole lower
  pub lower_end : lower.end ≡ Some at
