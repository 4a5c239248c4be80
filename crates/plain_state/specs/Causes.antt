-- Why a ground stands for no state.
use Rattle.std.specs.Prelude.{◌≡◌, ◌≢◌, ◌⊎◌, ℕ, List, codes, true, Option, Some, None, Contains}
use Rattle.metadata_schema.specs.declared.tablet.TabletRecord.{TabletRecord}
use Rattle.node_store.specs.Nodes.{Nodes}
use Rattle.store_layout.specs.declared.tables.Mark.TheVariants.{Free}
use Rattle.store_layout.specs.declared.tables.TableNode.{TableNode}
use Rattle.store_layout.specs.Tables.{IsTableAt, IsStagedAt}
use Rattle.store_meaning.specs.Ground.{Ground}
use Rattle.store_meaning.specs.Levels.{Reading, IsReadingOf, root_rows, metadata_rows}
use Rattle.store_meaning.specs.InUse.{IsRecord, IsFlagged, IsNamedLog, IsListedLog, IsListedSorted}
use Rattle.store_meaning.specs.Readable.{IsSortedThere}
use Rattle.store_meaning.specs.Marked.{mark_paths}
use Rattle.store_meaning.specs.Stands.{is_online}
use Rattle.state_reader.specs.declared.store_reading.ReadFault.{ReadFault}
use Rattle.state_reader.specs.declared.store_reading.ReadFault.TheVariants.{NoMemory as NoRoomToRead}
use Rattle.state_reader.specs.declared.store_reading.Untold.{Untold}
use Rattle.state_reader.specs.Lacks.{IsLacking}
use Rattle.state_reader.specs.Reads.{ReadCause}
use Rattle.plain_reader.specs.declared.fault.TableFault.{TableFault}
use Rattle.table_names.specs.Tables.{HasStray}
use Rattle.table_names.specs.Staged.{HasStrayFile}
use Rattle.plain_state.specs.declared.fault.StateFault.{StateFault}
use Rattle.plain_state.specs.declared.fault.StateFault.TheVariants.{Unread, Root, Metadata, Lacks, LacksFlagged, LacksLog, Unlisted, UnlistedSorted, Unsorted, StrayTable, StrayFile, LacksMarked, Table, NameTaken, LacksStaged, NoMemory}
use Rattle.plain_state.specs.Paths.{paths_behind}
use Rattle.plain_state.specs.States.{TableFails}

-- ---- levels

-- no level is read for this reason, which is no want of memory
pub record FailsToRead (known : Ground) (fault : ReadFault) : Type 0 where
  pub why : ReadCause known fault
  pub firm : fault ≢ NoRoomToRead

-- the root tablet has no parts
pub record HasBadRoot (known : Ground) (fault : TableFault) : Type 0 where
  pub reading : Reading
  pub read : IsReadingOf known reading
  pub fails : TableFails known (root_rows reading) Free fault

-- the metadata table has no parts
pub record HasBadMetadataTable (known : Ground) (fault : TableFault) : Type 0 where
  pub reading : Reading
  pub read : IsReadingOf known reading
  pub fails : TableFails known (metadata_rows reading) Free fault

-- ---- files and logs in use

-- a record names this file or log, of which nothing is told
pub record HasLackingRecord (known : Ground) (untold : Untold) : Type 0 where
  pub reading : Reading
  pub read : IsReadingOf known reading
  pub tablet : TabletRecord
  pub of : IsRecord reading tablet
  pub lacks : IsLacking known tablet untold

-- a flag stands for this file, of which nothing is told
pub record HasLackingFlag (known : Ground) (path : List ℕ) : Type 0 where
  pub reading : Reading
  pub read : IsReadingOf known reading
  pub flagged : IsFlagged reading.metadata path ⊎ IsFlagged reading.users path
  pub untold : known.cells_of path ≡ None

-- the nodes list this log, of which nothing is told
pub record HasLackingLog (known : Ground) (log : List ℕ) : Type 0 where
  pub listed : IsListedLog known.nodes log
  pub untold : known.mutations_of log ≡ None

-- a record names this log, and the nodes don't list it
pub record HasUnlistedLog (known : Ground) (log : List ℕ) : Type 0 where
  pub reading : Reading
  pub read : IsReadingOf known reading
  pub named : IsNamedLog reading log
  pub unlisted : IsListedLog known.nodes log → ⊥

-- the nodes list this log as sorted, and don't list it
pub record HasUnlistedSorted (known : Ground) (log : List ℕ) : Type 0 where
  pub sorted : IsListedSorted known.nodes log
  pub unlisted : IsListedLog known.nodes log → ⊥

-- the nodes list this log as sorted, and its sorted log isn't there
pub record HasUnsortedLog (known : Ground) (log : List ℕ) : Type 0 where
  pub sorted : IsListedSorted known.nodes log
  pub none : IsSortedThere known log → ⊥

-- ---- tables and staged files

-- the mark of a table names this file, of which nothing is told
pub record HasLackingMark (known : Ground) (path : List ℕ) : Type 0 where
  pub node : TableNode
  pub at : IsTableAt known.nodes node.id node
  pub named : Contains (mark_paths node.mark) path
  pub untold : known.cells_of path ≡ None

-- the table of this id is ONLINE and has no parts
pub record HasBadTable (known : Ground) (id : List ℕ) (fault : TableFault) : Type 0 where
  pub reading : Reading
  pub read : IsReadingOf known reading
  pub node : TableNode
  pub at : IsTableAt known.nodes id node
  pub online : is_online node.state ≡ true
  pub fails : TableFails known (reading.users.records id) node.mark fault

-- an ONLINE table of this name has this id
pub record IsOnlineNamed (nodes : Nodes) (name id : List ℕ) : Type 0 where
  pub node : TableNode
  pub at : IsTableAt nodes id node
  pub online : is_online node.state ≡ true
  pub named : node.name ≡ name

-- two ONLINE tables have this name
pub record HasTwoNamed (nodes : Nodes) (name : List ℕ) : Type 0 where
  pub one : List ℕ
  pub other : List ℕ
  pub first : IsOnlineNamed nodes name one
  pub second : IsOnlineNamed nodes name other
  pub apart : one ≢ other

-- a staged file has this path, of which nothing is told
pub record HasLackingStaged (known : Ground) (path : List ℕ) : Type 0 where
  pub name : List ℕ
  pub at : IsStagedAt known.nodes name path
  pub untold : known.cells_of path ≡ None

-- ---- the faults

-- why the ground stands for no state; want of memory is free
abbrev pub StateCause : Ground → StateFault → Type 0
StateCause known (Unread fault) = FailsToRead known fault
StateCause known (Root fault) = HasBadRoot known fault
StateCause known (Metadata fault) = HasBadMetadataTable known fault
StateCause known (Lacks untold) = HasLackingRecord known untold
StateCause known (LacksFlagged path) = HasLackingFlag known path
StateCause known (LacksLog log) = HasLackingLog known log
StateCause known (Unlisted log) = HasUnlistedLog known log
StateCause known (UnlistedSorted log) = HasUnlistedSorted known log
StateCause known (Unsorted log) = HasUnsortedLog known log
StateCause known StrayTable = HasStray known.nodes (paths_behind (codes "/tables/") known.nodes)
StateCause known StrayFile = HasStrayFile known.nodes (paths_behind (codes "/staged/") known.nodes)
StateCause known (LacksMarked path) = HasLackingMark known path
StateCause known (Table id fault) = HasBadTable known id fault
StateCause known (NameTaken name) = HasTwoNamed known.nodes name
StateCause known (LacksStaged path) = HasLackingStaged known path
StateCause known NoMemory = Unit {0}
