-- How a ground begins over a store that is there, or a new one.
use Rattle.std.specs.Prelude.{◌≡◌, ◌⊎◌, ℕ, ◌+◌, List, length, Result, Ok, Err, IsTrue, None}
use Rattle.std.specs.FinMap as map
use Rattle.host_model.specs.Picture.{Image}
use Rattle.host_model.specs.State.{HostState}
use Rattle.host_model.specs.Calls.{IsOfFiles, Faulted, IsQuiet, Looks}
use Rattle.host_model.specs.Kinds.{IsLook}
use Rattle.host_model.specs.Leaves.{LeavesOnly, AllSettled, Shows}
use Rattle.host_model.specs.declared.fault.Stop.{Stop}
use Rattle.host_model.specs.declared.fault.Stop.TheVariants.{Host, Damaged, Full, NoMemory}
use Rattle.data_files.specs.Files.{HoldsCells}
use Rattle.node_store.specs.Nodes.{multi_applied}
use Rattle.node_store.specs.Multi.{spelled_multi}
use Rattle.node_store.specs.Value.{StoreValue}
use Rattle.node_store.specs.Image.{HasNoNodes, IsBorn, IsUnborn}
use Rattle.store_layout.specs.Names.{nodes_name}
use Rattle.store_layout.specs.NewStore.{first_ops, first_cells, root_file, IsUnbornDisk, IsNewStore}
use Rattle.ground_store.specs.Value.{GroundValue}
use Rattle.ground_store.specs.declared.stop.GroundStop.{GroundStop}
use Rattle.ground_store.specs.declared.stop.GroundStop.TheVariants as begins

-- the host behind the call: the ground's, or the one that is handed back
abbrev pub host_behind : {H : Type 0} → Result (GroundValue H) (GroundStop × H) → H
host_behind (Ok ground) = ground.host
host_behind (Err answer) = answer.1

-- it hasn't stopped, and has made no log
pub record IsFresh {H : Type 0} (ground : GroundValue H) : Type 0 where
  pub runs : ground.stopped ≡ None
  pub logs : ground.logs ≡ map.empty

-- Why no store was opened. Where the nodes are damaged, the last call only asked.
abbrev pub OpenStops : GroundStop → HostState → HostState → Type 0
OpenStops begins.NotInit old new = IsTrue old.is_faithful → IsUnborn nodes_name old.files
OpenStops begins.NotBlank old new = ⊥
OpenStops (begins.Stop (Host fault)) old new = IsOfFiles fault × Faulted fault old new
OpenStops (begins.Stop (Damaged name)) old new = (name ≡ nodes_name) × (IsTrue old.is_faithful → IsBorn nodes_name old.files × HasNoNodes nodes_name old.files) × IsLook new.last
OpenStops (begins.Stop Full) old new = ⊥
OpenStops (begins.Stop NoMemory) old new = Unit {0}

-- a name of a file that a new store has
abbrev pub IsFirstName : List ℕ → List ℕ → List ℕ → Type 0
IsFirstName nodes root name = (name ≡ nodes) ⊎ (name ≡ root)

-- an unborn disk stays so, or has a new store
abbrev pub IsBegunOrNot : Image → Type 0
IsBegunOrNot image = IsUnbornDisk image ⊎ IsNewStore image

-- no store was begun, and the first file of the root tablet is there
pub record IsReady (image : Image) : Type 0 where
  pub unborn : IsUnbornDisk image
  pub root : HoldsCells root_file first_cells image

-- A new store is made on a disk of this kind. A fault or a crash on the way leaves a disk where no store was begun, or the store there.
pub record BeginsFrom (start : Image → Type 0) (old new : HostState) : Type 0 where
  pub quiet : IsQuiet old new
  pub tried : IsTrue old.is_faithful → start old.files → IsBegunOrNot new.files
  pub leaves : IsTrue old.is_honest → AllSettled old → start old.files → LeavesOnly (Shows IsBegunOrNot old.said) old new

-- the same on an unborn disk
abbrev pub Begins : HostState → HostState → Type 0
Begins = BeginsFrom IsUnbornDisk

-- the nodes of a store that was just made
pub record AreFirst (nodes : StoreValue) : Type 0 where
  pub name : nodes.name ≡ nodes_name
  pub made : multi_applied first_ops map.empty ≡ Ok nodes.nodes
  pub end : nodes.end ≡ 5 + length (spelled_multi first_ops)

-- why no store was made on an unborn disk: there is always room for the first nodes
abbrev pub MakeStops : Stop → HostState → HostState → Type 0
MakeStops (Host fault) old new = IsOfFiles fault × Faulted fault old new
MakeStops (Damaged name) old new = ⊥
MakeStops Full old new = ⊥
MakeStops NoMemory old new = Unit {0}

-- why no new store was made
abbrev pub InitStops : GroundStop → HostState → HostState → Type 0
InitStops begins.NotInit old new = ⊥
InitStops begins.NotBlank old new = Looks old new × (IsTrue old.is_faithful → IsUnbornDisk old.files → ⊥)
InitStops (begins.Stop stop) old new = MakeStops stop old new
