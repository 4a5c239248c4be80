-- One row of the metadata table is written, and the state stays: the guards.
use Rattle.std.specs.Prelude.{◌≡◌, ◌↔◌, ℕ, ◌≤◌, true, false, List, Option, Some, None, Contains}
use Rattle.metadata_schema.specs.declared.mutation.Mutation.{Mutation}
use Rattle.metadata_schema.specs.declared.tablet.FileEntry.{FileEntry}
use Rattle.metadata_schema.specs.declared.tablet.TabletRecord.{TabletRecord}
use Rattle.cell_merge.specs.declared.cell.Cell.{Cell}
use Rattle.level_rows.specs.Chain.{Rows, IsChain, effective_prev}
use Rattle.store_layout.specs.declared.tables.TableNode.{TableNode}
use Rattle.store_layout.specs.Tables.{Catalog}
use Rattle.store_meaning.specs.Ground.{Ground}
use Rattle.store_meaning.specs.Content.{file_cells, logs_of}
use Rattle.store_meaning.specs.Levels.{Reading}
use Rattle.store_meaning.specs.Writes.{counts_in}
use Rattle.store_meaning.specs.RowWrites.{RecordRow, RowWrite, WritesUserRow}
use Rattle.store_meaning.specs.ChainWrites.{RecordChange, content_in_place, user_rows_with, HasCovered, RewritesUserTablet}
use Rattle.store_meaning.specs.Naming.{RowNamesKnown, IsUnsorted}
use Rattle.store_meaning.specs.FileChanges.{ReplacesFiles}
use Rattle.store_meaning.specs.Flushes.{Flushes}
use Rattle.store_meaning.specs.Holders.{ChangesHolders}
use Rattle.store_meaning.specs.Stands.{is_online}
use Rattle.store_meaning.specs.Kept.{IsInSomeLog, IsPastBar, is_deleting}
use Rattle.kept_meaning.specs.Drawn.{IsRowDrawn}

-- ---- every row

-- the files that the row names are told, and the nodes list its logs; nothing is appended to a sorted log; its numbers were drawn
pub record RowFits (known : Ground) (write : RowWrite) : Type 0 where
  pub names : RowNamesKnown known write.row
  pub unsorted : IsUnsorted known write.log
  pub drawn : IsRowDrawn known.nodes write.row

-- no removal in a file of the record is past its bar
abbrev pub AreRemovalsWithin : Ground → TabletRecord → Type 0
AreRemovalsWithin known tablet = (file : FileEntry) (cells : List Cell) (cell : Cell) → Contains tablet.files file → file_cells known file ≡ Some cells → Contains cells cell → cell.value ≡ None → cell.time ≤ tablet.time

-- the record names the log of each mutation past its bar, and no removal in its files is past the bar
pub record IsTabletKept (known : Ground) (table : List ℕ) (rows : Rows) (tablet : TabletRecord) : Type 0 where
  pub logged : (log : List ℕ) (mutation : Mutation) → IsInSomeLog known log mutation → IsPastBar table rows tablet mutation → Contains (logs_of tablet) log
  pub removals : AreRemovalsWithin known tablet

-- ---- a row aside

-- what is the chain of the one is that of the other
abbrev pub HaveSameChains : Rows → Rows → Type 0
HaveSameChains old new = (chain : List TabletRecord) → IsChain old chain ↔ IsChain new chain

-- A row beside all chains that count: a candidate or a flag, a record that is left over, or one of a table that is being deleted.
pub record WritesAside (known : Ground) (reading : Reading) (catalog : Catalog) (write : RowWrite) : Type 0 where
  pub writes : WritesUserRow known reading write
  pub fits : RowFits known write
  pub aside : (table : List ℕ) (node : TableNode) → catalog.tables table ≡ Some node → is_deleting node.state ≡ false → HaveSameChains (reading.users.records table) (user_rows_with reading write table)

-- A row of a table that users don't see: it has no node, or isn't ONLINE. Where it isn't being deleted either, as a new table, the
-- tablets of a chain that its rows make up then are kept.
pub record WritesUnseenRow (known : Ground) (reading : Reading) (catalog : Catalog) (write : RowWrite) (table : List ℕ) (end : Option (List ℕ)) (tablet : Option TabletRecord) : Type 0 where
  pub writes : WritesUserRow known reading write
  pub fits : RowFits known write
  pub row : write.row ≡ RecordRow table end tablet
  pub unseen : (node : TableNode) → catalog.tables table ≡ Some node → is_online node.state ≡ false
  pub kept : (node : TableNode) → catalog.tables table ≡ Some node → is_deleting node.state ≡ false → (chain : List TabletRecord) → IsChain (user_rows_with reading write table) chain
      → (other : TabletRecord) → Contains chain other → IsTabletKept known table (user_rows_with reading write table) other

-- ---- a record in its place

-- the lower bound of the record's extent
abbrev pub low_of : Reading → RecordChange → Option (List ℕ)
low_of reading change = effective_prev (reading.users.records change.new.table) change.old

-- One record of a user table is written again with its extent and its `loaded` columns. Its cells leave each key what it had, and it is
-- kept where the old one was.
pub record RewritesKept (known : Ground) (reading : Reading) (write : RowWrite) (change : RecordChange) : Type 0 where
  pub rewrites : RewritesUserTablet known reading write change
  pub fits : RowFits known write
  pub loaded : change.new.loaded ≡ change.old.loaded
  pub covered : (was : List Cell) → content_in_place known (reading.users.records change.new.table) change change.old ≡ Some was
      → HasCovered was (content_in_place known (reading.users.records change.new.table) change change.new)
  pub kept : IsTabletKept known change.new.table (reading.users.records change.new.table) change.old
      → IsTabletKept known change.new.table (user_rows_with reading write change.new.table) change.new

-- Its holders or its named logs change. A log that it names no longer holds nothing for it: so `loc` is taken only where what is past
-- the bar in the log of its session stays named.
pub record ChangesHolderOf (known : Ground) (reading : Reading) (write : RowWrite) (change : RecordChange) : Type 0 where
  pub rewrites : RewritesUserTablet known reading write change
  pub fits : RowFits known write
  pub loaded : change.new.loaded ≡ change.old.loaded
  pub holders : ChangesHolders known (low_of reading change) change.old change.new

-- A flush, after which no mutation of the old record's logs that counts in it is past the new bar, not even one without cells.
pub record FlushesAll (known : Ground) (low : Option (List ℕ)) (old new : TabletRecord) : Type 0 where
  pub flushes : Flushes known low old new
  pub past : (log : List ℕ) (mutation : Mutation) → Contains (logs_of old) log → IsInSomeLog known log mutation → counts_in low old mutation ≡ true → mutation.time ≤ new.time

-- It is flushed.
pub record FlushesTablet (known : Ground) (reading : Reading) (write : RowWrite) (change : RecordChange) : Type 0 where
  pub rewrites : RewritesUserTablet known reading write change
  pub fits : RowFits known write
  pub loaded : change.new.loaded ≡ change.old.loaded
  pub flushes : FlushesAll known (low_of reading change) change.old change.new

-- Its files are replaced by others that leave each key what it had, as by a compaction or a chop; no removal in them is past the bar.
pub record ReplacesFilesOf (known : Ground) (reading : Reading) (write : RowWrite) (change : RecordChange) : Type 0 where
  pub rewrites : RewritesUserTablet known reading write change
  pub fits : RowFits known write
  pub loaded : change.new.loaded ≡ change.old.loaded
  pub replaces : ReplacesFiles known (low_of reading change) change.old change.new
  pub removals : AreRemovalsWithin known change.new
