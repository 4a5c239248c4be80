-- A record of `!0` is written in the root tablet, or the root record in its node, and the state stays: the guards.
use Rattle.std.specs.Prelude.{◌∷◌, [], List, Contains}
use Rattle.metadata_schema.specs.declared.tablet.TabletRecord.{TabletRecord}
use Rattle.level_rows.specs.Chain.{rows_of, effective_prev}
use Rattle.node_store.specs.Nodes.{Nodes}
use Rattle.store_meaning.specs.Ground.{Ground}
use Rattle.store_meaning.specs.Levels.{Reading, root_id, metadata_id, root_rows, metadata_rows}
use Rattle.store_meaning.specs.RowWrites.{RowWrite, metadata_rows_with, WritesMetadataRow, WritesRoot}
use Rattle.store_meaning.specs.ChainWrites.{RecordChange, RewritesMetadataTablet}
use Rattle.store_meaning.specs.Naming.{NamesKnown}
use Rattle.store_meaning.specs.FileChanges.{ReplacesFiles}
use Rattle.store_meaning.specs.Holders.{ChangesHolders}
use Rattle.kept_meaning.specs.Drawn.{IsRecordDrawn}
use Rattle.kept_meaning.specs.Rows.{RowFits, AreRemovalsWithin, IsTabletKept, FlushesAll}

-- ---- records of `!0`

-- A row of the root tablet is written. The tablets of the chain of `!0` then are kept, where those before were.
pub record WritesMetadataKept (known : Ground) (reading : Reading) (write : RowWrite) (chain : List TabletRecord) : Type 0 where
  pub writes : WritesMetadataRow known reading write chain
  pub fits : RowFits known write
  pub kept : ((tablet : TabletRecord) → Contains reading.chain tablet → IsTabletKept known metadata_id (metadata_rows reading) tablet)
      → (tablet : TabletRecord) → Contains chain tablet → IsTabletKept known metadata_id (metadata_rows_with reading write) tablet

-- One record of `!0` is written again with its extent: its holders or its named logs change.
pub record ChangesMetadataHolder (known : Ground) (reading : Reading) (write : RowWrite) (change : RecordChange) : Type 0 where
  pub rewrites : RewritesMetadataTablet known reading write change
  pub fits : RowFits known write
  pub holders : ChangesHolders known (effective_prev (metadata_rows reading) change.old) change.old change.new

-- It is flushed.
pub record FlushesMetadataTablet (known : Ground) (reading : Reading) (write : RowWrite) (change : RecordChange) : Type 0 where
  pub rewrites : RewritesMetadataTablet known reading write change
  pub fits : RowFits known write
  pub flushes : FlushesAll known (effective_prev (metadata_rows reading) change.old) change.old change.new

-- Its files are replaced by others that leave each key what it had; no removal in them is past the bar.
pub record ReplacesMetadataFiles (known : Ground) (reading : Reading) (write : RowWrite) (change : RecordChange) : Type 0 where
  pub rewrites : RewritesMetadataTablet known reading write change
  pub fits : RowFits known write
  pub replaces : ReplacesFiles known (effective_prev (metadata_rows reading) change.old) change.old change.new
  pub removals : AreRemovalsWithin known change.new

-- ---- the root record

-- The node of the root record is set. What the new one names is known and was drawn, and it is kept where the old one was.
pub record WritesRootKept (known : Ground) (reading : Reading) (nodes : Nodes) (root : TabletRecord) : Type 0 where
  pub writes : WritesRoot known reading nodes root
  pub names : NamesKnown known root
  pub drawn : IsRecordDrawn known.nodes root
  pub kept : IsTabletKept known root_id (root_rows reading) reading.root → IsTabletKept known root_id (rows_of root_id (root ∷ [])) root

-- The holders or the named logs of the root tablet change.
pub record ChangesRootHolder (known : Ground) (reading : Reading) (nodes : Nodes) (root : TabletRecord) : Type 0 where
  pub writes : WritesRoot known reading nodes root
  pub names : NamesKnown known root
  pub drawn : IsRecordDrawn known.nodes root
  pub holders : ChangesHolders known (effective_prev (root_rows reading) reading.root) reading.root root

-- It is flushed.
pub record FlushesRoot (known : Ground) (reading : Reading) (nodes : Nodes) (root : TabletRecord) : Type 0 where
  pub writes : WritesRoot known reading nodes root
  pub names : NamesKnown known root
  pub drawn : IsRecordDrawn known.nodes root
  pub flushes : FlushesAll known (effective_prev (root_rows reading) reading.root) reading.root root

-- Its files are replaced by others that leave each key what it had; no removal in them is past the bar.
pub record ReplacesRootFiles (known : Ground) (reading : Reading) (nodes : Nodes) (root : TabletRecord) : Type 0 where
  pub writes : WritesRoot known reading nodes root
  pub names : NamesKnown known root
  pub drawn : IsRecordDrawn known.nodes root
  pub replaces : ReplacesFiles known (effective_prev (root_rows reading) reading.root) reading.root root
  pub removals : AreRemovalsWithin known root
