-- What each image of a store keeps, beside standing for a plain state. A further part is a further field.
use Rattle.std.specs.Prelude.{◌≡◌, ◌⊎◌, ℕ, ◌<◌, ◌≤◌, Bool, true, false, List, ◌++◌, codes, Some, None, Contains}
use Rattle.std.specs.FinMap as map
use Rattle.host_model.specs.Picture.{Image}
use Rattle.row_keys.specs.Forms.{IsUserTableId, IsLogName}
use Rattle.plain_model.specs.State.{PlainState}
use Rattle.metadata_schema.specs.declared.mutation.Mutation.{Mutation}
use Rattle.metadata_schema.specs.declared.tablet.FileEntry.{FileEntry}
use Rattle.metadata_schema.specs.declared.tablet.Holder.{Holder}
use Rattle.metadata_schema.specs.declared.tablet.TabletRecord.{TabletRecord}
use Rattle.metadata_schema.specs.Paths.{IsFilePath}
use Rattle.cell_merge.specs.declared.cell.Cell.{Cell}
use Rattle.level_rows.specs.Chain.{Rows, IsChain}
use Rattle.level_rows.specs.Extents.{holds_row}
use Rattle.node_store.specs.declared.changes.Node.{Node}
use Rattle.node_store.specs.Nodes.{Nodes}
use Rattle.store_layout.specs.declared.tables.TableNode.{TableNode}
use Rattle.store_layout.specs.declared.tables.TableState.{TableState}
use Rattle.store_layout.specs.declared.tables.TableState.TheVariants.{New, Online, Deleting}
use Rattle.store_layout.specs.Names.{file_of}
use Rattle.store_layout.specs.Nodes.{IsNext, next_name_path, next_table_path, next_session_path}
use Rattle.store_layout.specs.Numbers.{base36_number, base16_number, name_number, log_number, IsDirectoryBelow}
use Rattle.store_layout.specs.Tables.{Catalog}
use Rattle.store_meaning.specs.Ground.{Ground, IsGroundOf}
use Rattle.store_meaning.specs.Content.{file_cells, logs_of}
use Rattle.store_meaning.specs.Levels.{Reading, root_id, metadata_id, root_rows, metadata_rows}
use Rattle.store_meaning.specs.InUse.{IsRecord, IsLogInUse, IsListedLog}
use Rattle.store_meaning.specs.Marked.{IsFileCounted}
use Rattle.store_meaning.specs.Stands.{StandsAs}

-- ---- drawn numbers

-- a node under `/gc` names the file of this path, among those of the root tablet
pub record IsListedCandidate (nodes : Nodes) (path : List ℕ) : Type 0 where
  pub node : Node
  pub there : map.get nodes (codes "/gc/" ++ file_of path) ≡ Some node

-- a candidate to be deleted, on either level or among the nodes
abbrev pub IsCandidate : Nodes → Reading → List ℕ → Type 0
IsCandidate nodes reading path = (reading.metadata.is_candidate path ≡ true) ⊎ (reading.users.is_candidate path ≡ true) ⊎ IsListedCandidate nodes path

-- the names of files that count or are candidates, and the directories of records, were drawn
pub record AreNamesDrawn (reading : Reading) (catalog : Catalog) (nodes : Nodes) : Type 0 where
  pub next : ℕ
  pub counter : IsNext nodes next_name_path next
  pub files : (path : List ℕ) → IsFileCounted reading catalog path ⊎ IsCandidate nodes reading path → (form : IsFilePath path) → name_number form < next
  pub directories : (tablet : TabletRecord) → IsRecord reading tablet → IsDirectoryBelow next tablet.dir

-- a mutation of a log that the nodes list
pub record IsInSomeLog (known : Ground) (log : List ℕ) (mutation : Mutation) : Type 0 where
  pub listed : IsListedLog known.nodes log
  pub mutations : List Mutation
  pub told : known.mutations_of log ≡ Some mutations
  pub there : Contains mutations mutation

-- the ids of tables, and of all that is told of a user table by records and logs, were drawn
pub record AreIdsDrawn (reading : Reading) (catalog : Catalog) (known : Ground) : Type 0 where
  pub next : ℕ
  pub counter : IsNext known.nodes next_table_path next
  pub tables : (id : List ℕ) (node : TableNode) → catalog.tables id ≡ Some node → base36_number id < next
  pub records : (tablet : TabletRecord) → IsRecord reading tablet → IsUserTableId tablet.table → base36_number tablet.table < next
  pub mutations : (log : List ℕ) (mutation : Mutation) → IsInSomeLog known log mutation → IsUserTableId mutation.table → base36_number mutation.table < next

-- the node of a server has this session
pub record IsServerSession (nodes : Nodes) (session : List ℕ) : Type 0 where
  pub server : List ℕ
  pub node : Node
  pub there : map.get nodes (codes "/servers/" ++ server) ≡ Some node
  pub is : node.value ≡ session

-- the node of a log is that of this session
pub record IsLogSession (nodes : Nodes) (session : List ℕ) : Type 0 where
  pub node : Node
  pub there : map.get nodes (codes "/logs/" ++ session) ≡ Some node

-- a record's `loc` or `future` has this session
pub record IsHolderSession (reading : Reading) (session : List ℕ) : Type 0 where
  pub tablet : TabletRecord
  pub of : IsRecord reading tablet
  pub holder : Holder
  pub there : (tablet.loc ≡ Some holder) ⊎ (tablet.future ≡ Some holder)
  pub is : holder.session ≡ session

-- the sessions of servers, records and logs were drawn
pub record AreSessionsDrawn (reading : Reading) (nodes : Nodes) : Type 0 where
  pub next : ℕ
  pub counter : IsNext nodes next_session_path next
  pub sessions : (session : List ℕ) → IsServerSession nodes session ⊎ IsLogSession nodes session ⊎ IsHolderSession reading session → base16_number session < next
  pub logs : (log : List ℕ) → IsLogInUse nodes reading log → (form : IsLogName log) → log_number form < next

-- ---- tablets

abbrev pub is_deleting : TableState → Bool
is_deleting New = false
is_deleting Online = false
is_deleting Deleting = true

-- the rows of a user table that isn't being deleted
pub record AreRowsOfUser (reading : Reading) (catalog : Catalog) (table : List ℕ) (rows : Rows) : Type 0 where
  pub node : TableNode
  pub there : catalog.tables table ≡ Some node
  pub stays : is_deleting node.state ≡ false
  pub is : rows ≡ reading.users.records table

-- the rows of a table that counts: `+r`, `!0`, or a user table that isn't being deleted
abbrev pub AreRowsOf : Reading → Catalog → List ℕ → Rows → Type 0
AreRowsOf reading catalog table rows = ((table ≡ root_id) × (rows ≡ root_rows reading)) ⊎ ((table ≡ metadata_id) × (rows ≡ metadata_rows reading)) ⊎ AreRowsOfUser reading catalog table rows

-- one of the tablets of such a table's chain
pub record IsChainTablet (reading : Reading) (catalog : Catalog) (table : List ℕ) (rows : Rows) (tablet : TabletRecord) : Type 0 where
  pub of : AreRowsOf reading catalog table rows
  pub chain : List TabletRecord
  pub is_chain : IsChain rows chain
  pub there : Contains chain tablet

-- a mutation of the tablet's table, in its extent and past its bar
pub record IsPastBar (table : List ℕ) (rows : Rows) (tablet : TabletRecord) (mutation : Mutation) : Type 0 where
  pub of : mutation.table ≡ table
  pub within : holds_row rows tablet mutation.row ≡ true
  pub past : tablet.time < mutation.time

-- the record of each such tablet names the log of every mutation past its bar, so that none is lost
abbrev pub AreLogged : Reading → Catalog → Ground → Type 0
AreLogged reading catalog known =
    (table : List ℕ) (rows : Rows) (tablet : TabletRecord) (log : List ℕ) (mutation : Mutation)
    → IsChainTablet reading catalog table rows tablet → IsInSomeLog known log mutation → IsPastBar table rows tablet mutation → Contains (logs_of tablet) log

-- no removal in a file of such a tablet is past its bar, so that it may be dropped once all files are merged
abbrev pub AreRemovalsWithinBar : Reading → Catalog → Ground → Type 0
AreRemovalsWithinBar reading catalog known =
    (table : List ℕ) (rows : Rows) (tablet : TabletRecord) (file : FileEntry) (cells : List Cell) (cell : Cell)
    → IsChainTablet reading catalog table rows tablet → Contains tablet.files file → file_cells known file ≡ Some cells → Contains cells cell → cell.value ≡ None → cell.time ≤ tablet.time

-- ---- kept

-- So read, the ground is kept, and stands for the state. That no two different cells of a tablet agree in key and time is in `stands`.
pub record IsKeptAs (reading : Reading) (catalog : Catalog) (known : Ground) (state : PlainState) : Type 0 where
  pub stands : StandsAs reading catalog known state
  pub names : AreNamesDrawn reading catalog known.nodes
  pub ids : AreIdsDrawn reading catalog known
  pub sessions : AreSessionsDrawn reading known.nodes
  pub logged : AreLogged reading catalog known
  pub removals : AreRemovalsWithinBar reading catalog known

-- a ground of the image is kept, and stands for the state
pub record IsKept (image : Image) (state : PlainState) : Type 0 where
  pub known : Ground
  pub of : IsGroundOf image known
  pub reading : Reading
  pub catalog : Catalog
  pub kept : IsKeptAs reading catalog known state
