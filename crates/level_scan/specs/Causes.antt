-- Why no level is read.
use Rattle.std.specs.Prelude.{◌≡◌, ◌⊎◌, ℕ, List, None, IsTrue}
use Rattle.host_model.specs.State.{HostState}
use Rattle.host_model.specs.Calls.{IsOfFiles, Faulted}
use Rattle.host_model.specs.declared.fault.Stop.{Stop}
use Rattle.host_model.specs.declared.fault.Stop.TheVariants.{Host, Damaged, Full, NoMemory}
use Rattle.metadata_schema.specs.declared.tablet.TabletRecord.{TabletRecord}
use Rattle.cell_merge.specs.declared.cell.Cell.{Cell}
use Rattle.level_rows.specs.Chain.{Rows, IsChain}
use Rattle.level_rows.specs.Broken.{IsBroken}
use Rattle.node_store.specs.Nodes.{Nodes}
use Rattle.store_layout.specs.Names.{nodes_name}
use Rattle.state_reader.specs.declared.level.LevelKind.{LevelKind}
use Rattle.state_reader.specs.declared.level.LevelKind.TheVariants.{Users}
use Rattle.state_reader.specs.LevelRows.{HasNoLevel}
use Rattle.state_reader.specs.Reads.{HasNoRoot, HasLongRoot}
use Rattle.tablet_scan.specs.Files.{IsFirstBad, IsNameOf}
use Rattle.level_scan.specs.declared.nodes_fault.NodesFault.{NodesFault}
use Rattle.level_scan.specs.declared.nodes_fault.NodesFault.TheVariants as wrong
use Rattle.level_scan.specs.Tablets.{MemoryAt, row_of}
use Rattle.level_scan.specs.Reads.{IsFileOf, IsFirstBadOf, LacksMemory, LacksFirst, TellNoLevel}

-- ---- one tablet

-- the name is that of one of its files, the first that is bad
pub record BlamesFile (tablet : TabletRecord) (name : List ℕ) (state : HostState) : Type 0 where
  pub named : IsNameOf tablet.files name
  pub first : IsTrue state.is_faithful → IsFirstBad state.files tablet.files name

-- the nodes are blamed for a tablet that has no memory
pub record BlamesMemory (hosted : MemoryAt) (tablet : TabletRecord) (name : List ℕ) : Type 0 where
  pub named : name ≡ nodes_name
  pub none : hosted (row_of tablet) ≡ None

-- why a tablet's cells weren't read; want of memory is free
abbrev pub TabletCause : MemoryAt → TabletRecord → Stop → HostState → HostState → Type 0
TabletCause hosted tablet (Host fault) old new = IsOfFiles fault × Faulted fault old new
TabletCause hosted tablet (Damaged name) old new = BlamesFile tablet name old ⊎ BlamesMemory hosted tablet name
TabletCause hosted tablet Full old new = ⊥
TabletCause hosted tablet NoMemory old new = Unit {0}

-- ---- the tablets of a table

-- the name is that of a file of one of these tablets, the first that is bad
pub record BlamesFileOf (rows : Rows) (hosted : MemoryAt) (chain : List TabletRecord) (name : List ℕ) (state : HostState) : Type 0 where
  pub named : IsFileOf chain name
  pub first : IsTrue state.is_faithful → IsFirstBadOf state.files rows hosted chain name

-- the nodes are blamed for a tablet that has no memory, the first of these
pub record BlamesMemoryOf (rows : Rows) (hosted : MemoryAt) (chain : List TabletRecord) (name : List ℕ) (state : HostState) : Type 0 where
  pub named : name ≡ nodes_name
  pub lacks : LacksMemory hosted chain
  pub first : IsTrue state.is_faithful → LacksFirst state.files rows hosted chain

-- what is blamed for cells that weren't read
abbrev pub BlamesOneOf : Rows → MemoryAt → List TabletRecord → List ℕ → HostState → Type 0
BlamesOneOf rows hosted chain name state = BlamesFileOf rows hosted chain name state ⊎ BlamesMemoryOf rows hosted chain name state

-- why the cells of these tablets weren't read; want of memory is free
abbrev pub CellsCause : Rows → MemoryAt → List TabletRecord → Stop → HostState → HostState → Type 0
CellsCause rows hosted chain (Host fault) old new = IsOfFiles fault × Faulted fault old new
CellsCause rows hosted chain (Damaged name) old new = BlamesOneOf rows hosted chain name old
CellsCause rows hosted chain Full old new = ⊥
CellsCause rows hosted chain NoMemory old new = Unit {0}

-- ---- levels

-- the nodes are blamed for cells that tell of no level
pub record BlamesCells (rows : Rows) (hosted : MemoryAt) (chain : List TabletRecord) (kind : LevelKind) (name : List ℕ) (state : HostState) : Type 0 where
  pub named : name ≡ nodes_name
  pub none : IsTrue state.is_faithful → TellNoLevel state.files rows hosted chain kind

-- what is blamed for a level that wasn't read
abbrev pub Blames : Rows → MemoryAt → List TabletRecord → LevelKind → List ℕ → HostState → Type 0
Blames rows hosted chain kind name state = BlamesOneOf rows hosted chain name state ⊎ BlamesCells rows hosted chain kind name state

-- why the level of these tablets wasn't read; want of memory is free
abbrev pub LevelStop : Rows → MemoryAt → List TabletRecord → LevelKind → Stop → HostState → HostState → Type 0
LevelStop rows hosted chain kind (Host fault) old new = IsOfFiles fault × Faulted fault old new
LevelStop rows hosted chain kind (Damaged name) old new = Blames rows hosted chain kind name old
LevelStop rows hosted chain kind Full old new = ⊥
LevelStop rows hosted chain kind NoMemory old new = Unit {0}

-- the nodes are blamed for records that make up no chain
pub record BlamesChain (rows : Rows) (name : List ℕ) : Type 0 where
  pub named : name ≡ nodes_name
  pub broken : IsBroken rows

-- what is blamed by the chain of these rows
pub record BlamesOnChain (rows : Rows) (hosted : MemoryAt) (kind : LevelKind) (name : List ℕ) (state : HostState) : Type 0 where
  pub chain : List TabletRecord
  pub is : IsChain rows chain
  pub blames : Blames rows hosted chain kind name state

-- why the level of all tables wasn't read; want of memory is free
abbrev pub UsersStop : Rows → MemoryAt → Stop → HostState → HostState → Type 0
UsersStop rows hosted (Host fault) old new = IsOfFiles fault × Faulted fault old new
UsersStop rows hosted (Damaged name) old new = BlamesChain rows name ⊎ BlamesOnChain rows hosted Users name old
UsersStop rows hosted Full old new = ⊥
UsersStop rows hosted NoMemory old new = Unit {0}

-- ---- faults of the nodes

-- why cells tell of no level; want of memory is free
abbrev pub NoLevelCause : LevelKind → List Cell → NodesFault → Type 0
NoLevelCause kind cells wrong.Damaged = HasNoLevel kind cells
NoLevelCause kind cells wrong.NoMemory = Unit {0}

-- why there is no chain
abbrev pub NoChainCause : Rows → NodesFault → Type 0
NoChainCause rows wrong.Damaged = IsBroken rows
NoChainCause rows wrong.NoMemory = Unit {0}

-- why there is no memory of a tablet
abbrev pub UnhostedCause : MemoryAt → TabletRecord → NodesFault → Type 0
UnhostedCause hosted tablet wrong.Damaged = hosted (row_of tablet) ≡ None
UnhostedCause hosted tablet wrong.NoMemory = Unit {0}

-- the stop that such a fault is
abbrev pub IsStopFor : NodesFault → Stop → Type 0
IsStopFor wrong.Damaged stop = (stop ≡ Damaged nodes_name) ⊎ (stop ≡ NoMemory)
IsStopFor wrong.NoMemory stop = stop ≡ NoMemory

-- the nodes have no root record, or a value of 2^32 bytes or more in its place
abbrev pub LacksRoot : Nodes → Type 0
LacksRoot nodes = HasNoRoot nodes ⊎ HasLongRoot nodes

-- why the nodes give no root record; want of memory is free
abbrev pub RootStop : Nodes → Stop → Type 0
RootStop nodes (Host fault) = ⊥
RootStop nodes (Damaged name) = (name ≡ nodes_name) × LacksRoot nodes
RootStop nodes Full = ⊥
RootStop nodes NoMemory = Unit {0}
