-- How a run comes to its store.
use Rattle.std.specs.Prelude.{◌≡◌, ◌⊎◌, Bool, true, false, Result, IfOk, IfErr, OnOk, IsTrue}
use Rattle.host_model.specs.Picture.{Image}
use Rattle.host_model.specs.State.{HostState}
use Rattle.host_model.specs.Calls.{IsQuiet, IsOfFiles, Faulted, Looks}
use Rattle.host_model.specs.Kinds.{IsLook, IsLookOrSync}
use Rattle.host_model.specs.Leaves.{LeavesOnly, Shows, AllSettled}
use Rattle.host_model.specs.declared.fault.Stop.TheVariants.{Host, Damaged, Full, NoMemory}
use Rattle.node_store.specs.Image.{IsBorn, IsUnborn, IsStored}
use Rattle.store_layout.specs.Names.{nodes_name}
use Rattle.store_layout.specs.NewStore.{IsUnbornDisk}
use Rattle.store_meaning.specs.Readable.{IsReadable}
use Rattle.ground_store.specs.declared.stop.GroundStop.{GroundStop}
use Rattle.ground_store.specs.declared.stop.GroundStop.TheVariants.{NotInit, NotBlank, Stop as Stopped}
use Rattle.table_store.specs.Tables.{no_tables}
use Rattle.table_store.specs.Room.{Station, IsNewStation}
use Rattle.table_store.specs.Kept.{SaysTables, SaysNoTables, IsKept}
use Rattle.table_store.specs.StoreValue.{StoreValue, IsFresh, station_of}
use Rattle.shell.specs.LineServed.{IsSure, IsUnchanged}
use Rattle.shell.specs.Readable.{IsStart}

-- the store that an image has
pub record IsStoreOf (image : Image) (station : Station) : Type 0 where
  pub stored : IsStored station.nodes image
  pub file : station.nodes.name ≡ nodes_name
  pub says : SaysTables image station.tables

-- the store with which a run begins: that of the image, or with --init a new one on an unborn disk
abbrev pub Begins : Bool → Image → Station → Type 0
Begins false image start = IsStoreOf image start
Begins true image start = IsUnbornDisk image × IsNewStation start

-- Why no store was opened. Where the nodes are damaged, the last call only asked. Where the program's own memory was short, of any host: so it did, or nothing was asked.
abbrev pub OpenStops : GroundStop → HostState → HostState → Type 0
OpenStops NotInit old new = IsTrue old.is_faithful → IsUnborn nodes_name old.files
OpenStops NotBlank old new = ⊥
OpenStops (Stopped (Host fault)) old new = IsOfFiles fault × Faulted fault old new
OpenStops (Stopped (Damaged named)) old new = (named ≡ nodes_name) × (IsTrue old.is_faithful → IsBorn nodes_name old.files × SaysNoTables old.files) × IsLook new.last
OpenStops (Stopped Full) old new = ⊥
OpenStops (Stopped NoMemory) old new = IsUnchanged old new ⊎ IsLook new.last

-- Why no store was made. Where the program's own memory was short, of any host: the last call only asked or was a sync, or nothing was asked.
abbrev pub InitStops : GroundStop → HostState → HostState → Type 0
InitStops NotInit old new = ⊥
InitStops NotBlank old new = Looks old new × (IsTrue old.is_faithful → IsUnbornDisk old.files → ⊥)
InitStops (Stopped (Host fault)) old new = IsOfFiles fault × Faulted fault old new
InitStops (Stopped (Damaged named)) old new = ⊥
InitStops (Stopped Full) old new = ⊥
InitStops (Stopped NoMemory) old new = IsUnchanged old new ⊎ IsLookOrSync new.last

abbrev pub StoreStops : Bool → GroundStop → HostState → HostState → Type 0
StoreStops false stop first now = OpenStops stop first now
StoreStops true stop first now = InitStops stop first now

-- an unborn disk stays so, or has a new store
abbrev pub IsBegunOrNot : Image → Type 0
IsBegunOrNot image = IsUnbornDisk image ⊎ IsKept image no_tables

-- What is left before a script is served: all as it was, but for what --init has made of an unborn disk. Of any other disk it only asks.
pub record LeavesDisk (init : Bool) (first now : HostState) : Type 0 where
  pub quiet : IsQuiet first now
  pub looks : (init ≡ false) → Looks first now
  pub spares : (init ≡ true) → IsTrue first.is_faithful → (IsUnbornDisk first.files → ⊥) → Looks first now
  pub tried : (init ≡ true) → IsTrue first.is_faithful → IsUnbornDisk first.files → IsBegunOrNot now.files
  pub leaves : (init ≡ true) → IsTrue first.is_honest → AllSettled first → IsUnbornDisk first.files → LeavesOnly (Shows IsBegunOrNot first.said) first now

-- A store is opened, or made.
pub record OpensStore (init : Bool) (result : Result StoreValue GroundStop) (old new : HostState) : Type 0 where
  pub fresh : IfOk result IsFresh
  pub sure : IfOk result (λ store. IsSure store new)
  pub begins : IsTrue old.is_faithful → IfOk result (λ store. Begins init old.files (station_of store))
  pub readable : IsTrue old.is_faithful → IsStart init old.files → OnOk result (IsReadable new.files)
  pub stops : IfErr result (λ stop. StoreStops init stop old new)
  pub left : LeavesDisk init old new
  pub rests : IsTrue old.is_honest → AllSettled old → OnOk result (AllSettled new)
