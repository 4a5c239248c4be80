-- How the record of the root tablet is set.
use Rattle.std.specs.Prelude.{◌≡◌, ◌+◌, ◌≤◌, ◌^◌, List, [], ◌∷◌, length, Some, None}
use Rattle.std.specs.FinMap as map
use Rattle.host_model.specs.Picture.{Image}
use Rattle.host_model.specs.State.{HostState}
use Rattle.host_model.specs.declared.fault.Stop.{Stop}
use Rattle.host_model.specs.declared.fault.Stop.TheVariants.{Host, Damaged, Full, NoMemory}
use Rattle.plain_model.specs.State.{PlainState}
use Rattle.journal_core.specs.Journal.{IsCounted}
use Rattle.metadata_schema.specs.declared.tablet.TabletRecord.{TabletRecord}
use Rattle.metadata_schema.specs.Columns.{columns_of}
use Rattle.cell_merge.specs.declared.cell.Cell.{Cell}
use Rattle.cell_merge.specs.Changes.{Covers}
use Rattle.level_rows.specs.Chain.{IsChain, rows_of}
use Rattle.node_store.specs.declared.changes.Node.{Node}
use Rattle.node_store.specs.declared.changes.NodeOp.{NodeOp}
use Rattle.node_store.specs.declared.changes.NodeOp.TheVariants.{Set}
use Rattle.node_store.specs.Answers.{IsFull}
use Rattle.node_store.specs.Nodes.{Nodes}
use Rattle.node_store.specs.Value.{StoreValue}
use Rattle.store_layout.specs.Nodes.{root_path, root_value}
use Rattle.store_layout.specs.Tables.{Catalog}
use Rattle.store_meaning.specs.Content.{contents_of}
use Rattle.store_meaning.specs.Ground.{Ground, IsGroundOf, with_nodes}
use Rattle.store_meaning.specs.Kept.{IsKeptAs}
use Rattle.store_meaning.specs.Levels.{Reading, IsRecordAt, root_id, root_rows}
use Rattle.store_meaning.specs.Naming.{NamesKnown}
use Rattle.store_meaning.specs.RowWrites.{root_written}
use Rattle.kept_meaning.specs.Drawn.{IsRecordDrawn}
use Rattle.kept_meaning.specs.Rows.{IsTabletKept}

-- the node gets this record, whichever version it has
abbrev pub root_ops : TabletRecord → List NodeOp
root_ops root = Set root_path (root_value root) None ∷ []

-- the node has this record, one version later, and no other node changes
pub record SetsRoot (root : TabletRecord) (old new : Nodes) : Type 0 where
  pub was : Node
  pub there : map.get old root_path ≡ Some was
  pub is : new ≡ map.insert old root_path (record { value = root_value root; version = was.version + 1 })

-- the record has more columns than a value can tell, or memory wants
abbrev pub ValueCause : TabletRecord → Stop → Type 0
ValueCause root (Host fault) = ⊥
ValueCause root (Damaged name) = ⊥
ValueCause root Full = 2 ^ 32 ≤ length (columns_of root)
ValueCause root NoMemory = Unit {0}

-- why the record isn't set; want of memory is free
abbrev pub SetCause : TabletRecord → StoreValue → Stop → HostState → HostState → Type 0
SetCause root store (Host fault) old new = IsCounted fault old new
SetCause root store (Damaged name) old new = ⊥
SetCause root store Full old new = IsFull (root_ops root) store
SetCause root store NoMemory old new = Unit {0}

-- ---- the ground

-- the image is one of the ground with the nodes in which the record is set
pub record IsGroundWithRoot (root : TabletRecord) (known : Ground) (image : Image) : Type 0 where
  pub nodes : Nodes
  pub sets : SetsRoot root known.nodes nodes
  pub of : IsGroundOf image (with_nodes known nodes)

-- the ground is kept with the same state where the record is set
pub record KeepsWithRoot (reading : Reading) (catalog : Catalog) (known : Ground) (state : PlainState) (root : TabletRecord) : Type 0 where
  pub kept : (nodes : Nodes) → SetsRoot root known.nodes nodes → IsKeptAs (root_written known reading root) catalog (with_nodes known nodes) state

-- The root tablet may have this record: its cells leave each key what it had, what it names is known and was drawn, and it is kept
-- where the old one was.
pub record RootMayBe (known : Ground) (reading : Reading) (root : TabletRecord) : Type 0 where
  pub at : IsRecordAt root_id None root
  pub is_chain : IsChain (rows_of root_id (root ∷ [])) (root ∷ [])
  pub cells : List Cell
  pub content : contents_of known (rows_of root_id (root ∷ [])) (root ∷ []) ≡ Some cells
  pub covers : Covers cells reading.root_cells
  pub names : NamesKnown known root
  pub drawn : IsRecordDrawn known.nodes root
  pub kept : IsTabletKept known root_id (root_rows reading) reading.root → IsTabletKept known root_id (rows_of root_id (root ∷ [])) root
