-- What contracts see of a store of tables, and what its calls do.
use Rattle.std.specs.Prelude.{◌≡◌, ◌⊎◌, ℕ, List, [], ◌∷◌, ◌++◌, Option, None}
use Rattle.host_model.specs.Picture.{Image}
use Rattle.host_model.specs.State.{HostState}
use Rattle.host_model.specs.Calls.{Faulted, IsOfFiles}
use Rattle.host_model.specs.declared.fault.Stop.{Stop}
use Rattle.host_model.specs.declared.fault.Stop.TheVariants.{Host, Damaged, Full, NoMemory}
use Rattle.node_store.specs.Nodes.{Nodes}
use Rattle.node_store.specs.Value.{StoreValue as NodeStoreValue}
use Rattle.table_store.specs.Numbers.{base36}
use Rattle.store_layout.specs.Names.{nodes_name}
use Rattle.store_meaning.specs.Readable.{IsReadable}
use Rattle.table_store.specs.Tables.{Tables, created}
use Rattle.table_store.specs.Reading.{HasNoReading}
use Rattle.table_store.specs.Room.{Station, IsCreateFull, AddsTable}
use Rattle.table_store.specs.Kept.{SaysTables}
use Rattle.plain_model.specs.declared.operation.Op.TheVariants.{Create}
use Rattle.plain_model.specs.declared.operation.Source.TheVariants.{Line}
use Rattle.plain_model.specs.declared.operation.Entry.{Entry}
pub use Rattle.table_store.specs.Tables.{table_texts}

pub record StoreValue : Type 0 where
  pub nodes : NodeStoreValue
  pub tables : Tables
  pub history : List Entry
  -- the entry whose commit a fault fell into
  pub doubt : List Entry
  -- what it has answered, and answers from then on
  pub stop : Option Stop

abbrev pub station_of : StoreValue → Station
station_of store = record { nodes = store.nodes; tables = store.tables }

-- the entry of a `createtable` at this line
abbrev pub entry_of : ℕ → List ℕ → Tables → Entry
entry_of line name tables = record { op = Create (base36 tables.next) name []; source = Line line; line = line; lock = None }

-- nothing was done with it yet
pub record IsFresh (store : StoreValue) : Type 0 where
  pub history : store.history ≡ []
  pub doubt : store.doubt ≡ []
  pub running : store.stop ≡ None

-- the image says these tables still, or one more; and if it could be read, it still can
pub record MayCreate (name : List ℕ) (tables : Tables) (old new : Image) : Type 0 where
  pub each : SaysTables old tables → SaysTables new tables ⊎ SaysTables new (created name tables)
  pub readable : IsReadable old → IsReadable new

pub record Creates (name : List ℕ) (tables : Tables) (old new : Image) : Type 0 where
  pub each : SaysTables old tables → SaysTables new (created name tables)

-- the store has one table more, and the entry for it
pub record HasCreated (line : ℕ) (name : List ℕ) (old new : StoreValue) : Type 0 where
  pub adds : AddsTable name (station_of old) (station_of new)
  pub history : new.history ≡ old.history ++ entry_of line name old.tables ∷ []
  pub doubt : new.doubt ≡ []
  pub running : new.stop ≡ None

-- Why a table wasn't made. Only a fault of the host leaves its entry in doubt.
abbrev pub CreateStops : Stop → ℕ → List ℕ → StoreValue → StoreValue → HostState → HostState → Type 0
CreateStops (Host fault) line name old new before now = IsOfFiles fault × Faulted fault before now × (new.doubt ≡ entry_of line name old.tables ∷ [])
CreateStops (Damaged named) line name old new before now = ⊥
CreateStops Full line name old new before now = (new.doubt ≡ []) × IsCreateFull name old.tables old.nodes
CreateStops NoMemory line name old new before now = new.doubt ≡ []

-- the host was asked nothing before this stop
abbrev pub IsUnasked : Stop → Type 0
IsUnasked (Host fault) = ⊥
IsUnasked (Damaged named) = ⊥
IsUnasked Full = Unit {0}
IsUnasked NoMemory = Unit {0}

-- why no tables were read from these nodes: some node isn't of its form, or memory was short
abbrev pub ReadStops : Stop → Nodes → Type 0
ReadStops (Host fault) nodes = ⊥
ReadStops (Damaged named) nodes = (named ≡ nodes_name) × HasNoReading nodes
ReadStops Full nodes = ⊥
ReadStops NoMemory nodes = Unit {0}
