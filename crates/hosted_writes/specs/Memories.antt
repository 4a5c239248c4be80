-- Tablets and their memories as a write comes into one of them.
use Rattle.std.specs.Prelude.{◌≡◌, ◌⊎◌, ℕ, ◌<◌, true, false, List, Option, Some, All, Contains}
use Rattle.row_keys.specs.RowOrder.{is_within}
use Rattle.metadata_schema.specs.declared.mutation.Mutation.{Mutation}
use Rattle.metadata_schema.specs.declared.tablet.TabletRecord.{TabletRecord}
use Rattle.cell_merge.specs.declared.cell.Cell.{Cell}
use Rattle.cell_merge.specs.Changes.{AreConsistent}
use Rattle.cell_merge.specs.Newest.{Bytes}
use Rattle.level_rows.specs.Chain.{Rows, effective_prev}
use Rattle.tablet_mem.specs.Memory.{Memory, next_time}
use Rattle.log_files.specs.Mutations.{AreRising}
use Rattle.store_meaning.specs.Ground.{Ground}
use Rattle.store_meaning.specs.Content.{content_of, logs_of}
use Rattle.store_meaning.specs.Writes.{counts_in}
use Rattle.tablet_scan.specs.Scans.{IsMemoryOf}
use Rattle.hosted_writes.specs.declared.row_updates.RowUpdates.{RowUpdates}

-- the row is of the tablet's table, above this lower bound and up to the end row
pub record HasRow (low : Option Bytes) (tablet : TabletRecord) (write : RowUpdates) : Type 0 where
  pub table : write.table ≡ tablet.table
  pub within : is_within low tablet.end write.row ≡ true

-- the next time is past the bar and past each time in the tablet's content
pub record IsTimedPast (known : Ground) (low : Option Bytes) (tablet : TabletRecord) (memory : Memory) : Type 0 where
  pub bar : tablet.time < next_time memory
  pub cells : (cells : List Cell) → content_of known low tablet ≡ Some cells → All (λ cell. cell.time < next_time memory) cells

-- these are told, and no two different ones have the same key and time
pub record AreTold (told : Option (List Cell)) : Type 0 where
  pub cells : List Cell
  pub is : told ≡ Some cells
  pub consistent : AreConsistent cells

-- The tablet may take a write in this log: it has the row and names the log, the memory is its own, and the next time is past all that
-- the tablet and the memory have.
pub record TakesWrite (known : Ground) (low : Option Bytes) (tablet : TabletRecord) (memory : Memory) (log : List ℕ) (write : RowUpdates) : Type 0 where
  pub row : HasRow low tablet write
  pub rising : AreRising write.updates
  pub named : Contains (logs_of tablet) log
  pub of : IsMemoryOf known low tablet memory
  pub past : IsTimedPast known low tablet memory
  pub newer : All (λ cell. cell.time < next_time memory) memory.cells
  pub content : AreTold (content_of known low tablet)

-- it doesn't count in the tablet, or the tablet doesn't name its log
abbrev pub IsAside : Option Bytes → TabletRecord → List ℕ → Mutation → Type 0
IsAside low tablet log mutation = (counts_in low tablet mutation ≡ false) ⊎ (Contains (logs_of tablet) log → ⊥)

-- it has the row, and no other tablet of the chain does
pub record IsHolderOf (rows : Rows) (chain : List TabletRecord) (write : RowUpdates) (holder : TabletRecord) : Type 0 where
  pub there : Contains chain holder
  pub row : HasRow (effective_prev rows holder) holder write
  pub only : (other : TabletRecord) → Contains chain other → HasRow (effective_prev rows other) other write → other ≡ holder
