-- How a server starts in the list.
use Rattle.std.specs.Prelude.{◌≡◌, ◌⊎◌, List, ℕ, None, IsSome}
use Rattle.std.specs.FinMap as map
use Rattle.host_model.specs.State.{HostState}
use Rattle.host_model.specs.Calls.{IsOfFiles, Faulted}
use Rattle.host_model.specs.declared.fault.Stop.{Stop}
use Rattle.host_model.specs.declared.fault.Stop.TheVariants.{Host, Damaged, Full, NoMemory}
use Rattle.node_store.specs.Value.{StoreValue}
use Rattle.store_layout.specs.Names.{nodes_name}
use Rattle.store_layout.specs.Nodes.{IsNoCounter, next_session_path}
use Rattle.ground_store.specs.Value.{GroundValue}
use Rattle.server_list.specs.Servers.{Servers, server_of, started}
use Rattle.server_nodes.specs.Sessions.{session_of, log_of}
use Rattle.server_nodes.specs.Starting.{IsDrawable, IsStartFull}
use Rattle.server_nodes.specs.Started.{IsStarted}
use Rattle.cluster_state.specs.Value.{ClusterValue}

-- all but the ground is as it was
abbrev pub SameBeside : {H : Type 0} → ClusterValue H → ClusterValue H → Type 0
SameBeside old new = new ≡ record old { base = new.base }

-- a server of this session is in the list
abbrev pub IsInList : List ℕ → Servers → Type 0
IsInList session servers = IsSome (server_of session servers)

-- why a server that was started isn't listed
abbrev pub ListCause : List ℕ → Servers → Stop → Type 0
ListCause session servers (Host fault) = ⊥
ListCause session servers (Damaged file) = (file ≡ nodes_name) × IsInList session servers
ListCause session servers Full = ⊥
ListCause session servers NoMemory = Unit {0}

-- The session is a drawn one that no server in the list has; its log is empty, and the server stands last in the list, live.
pub record StartsIn {H : Type 0} (name : List ℕ) (old : GroundValue H) (servers : Servers) (new : GroundValue H) (after : Servers) : Type 0 where
  pub session : List ℕ
  pub drawn : IsStarted name session old.nodes.nodes new.nodes.nodes
  pub fresh : server_of session servers ≡ None
  pub logs : new.logs ≡ map.insert old.logs (log_of session) (record { name = log_of session; end = 0 })
  pub list : after ≡ started name session servers

-- so in a cluster, and all else is as it was
pub record StartsServer {H : Type 0} (name : List ℕ) (old new : ClusterValue H) : Type 0 where
  pub starts : StartsIn name old.base old.servers new.base new.servers
  pub rest : new ≡ record old { base = new.base; servers = new.servers }

-- the session that would be drawn is that of a server in the list
pub record IsDrawnTwice (store : StoreValue) (servers : Servers) : Type 0 where
  pub number : ℕ
  pub drawn : IsDrawable store.nodes number
  pub listed : IsInList (session_of number) servers

-- why no server was started
abbrev pub StartServerCause : List ℕ → StoreValue → Servers → Stop → HostState → HostState → Type 0
StartServerCause name store servers (Host fault) old new = IsOfFiles fault × Faulted fault old new
StartServerCause name store servers (Damaged file) old new = (file ≡ nodes_name) × (IsNoCounter store.nodes next_session_path ⊎ IsDrawnTwice store servers)
StartServerCause name store servers Full old new = IsStartFull name store
StartServerCause name store servers NoMemory old new = Unit {0}
