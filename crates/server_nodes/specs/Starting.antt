-- How a server starts: its log is made, and then its session is drawn and its nodes are written.
use Rattle.std.specs.Prelude.{◌≡◌, ◌⊎◌, ℕ, ◌+◌, ◌^◌, ◌<◌, ◌≤◌, List, [], ◌∷◌, Option, Some, None}
use Rattle.std.specs.FinMap as map
use Rattle.std.specs.Fmt.{decimal}
use Rattle.host_model.specs.Picture.{Image}
use Rattle.host_model.specs.State.{HostState}
use Rattle.host_model.specs.Calls.{IsOfFiles, Faulted}
use Rattle.host_model.specs.declared.fault.Stop.{Stop}
use Rattle.host_model.specs.declared.fault.Stop.TheVariants.{Host, Damaged, Full, NoMemory}
use Rattle.node_store.specs.declared.changes.Node.{Node}
use Rattle.node_store.specs.declared.changes.NodeOp.{NodeOp}
use Rattle.node_store.specs.declared.changes.NodeOp.TheVariants.{Create, Set}
use Rattle.node_store.specs.Nodes.{Nodes}
use Rattle.node_store.specs.Answers.{IsFull}
use Rattle.node_store.specs.Value.{StoreValue}
use Rattle.node_store.specs.Steps.{MayGive, Gives}
use Rattle.store_layout.specs.Names.{nodes_name}
use Rattle.store_layout.specs.Nodes.{IsNext, IsNoCounter, next_session_path}
use Rattle.ground_store.specs.Steps.{Stays, MayWrite, Writes}
use Rattle.server_nodes.specs.Sessions.{session_of, log_of, server_path, log_path}

-- ---- the changes of the nodes

-- the path is made with this value, or set to it where it is there
abbrev pub put_over : List ℕ → List ℕ → Option Node → NodeOp
put_over path value None = Create path value
put_over path value (Some node) = Set path value None

abbrev pub put_op : Nodes → List ℕ → List ℕ → NodeOp
put_op nodes path value = put_over path value (map.get nodes path)

-- the number is drawn, and the log and the server of its session have their nodes
abbrev pub start_ops : Nodes → List ℕ → ℕ → List NodeOp
start_ops nodes name number =
    Set next_session_path (decimal (number + 1)) None
    ∷ put_op nodes (log_path (session_of number)) (log_of (session_of number))
    ∷ put_op nodes (server_path name) (session_of number) ∷ []

-- the number is the next one, and one more can be drawn behind it
pub record IsDrawable (nodes : Nodes) (number : ℕ) : Type 0 where
  pub next : IsNext nodes next_session_path number
  pub more : number + 1 < 2 ^ 63

-- ---- the files

-- the log is made anew, and then the nodes are changed
pub record Starts (name : List ℕ) (store : StoreValue) (old new : Image) : Type 0 where
  pub number : ℕ
  pub drawn : IsDrawable store.nodes number
  pub made : Image
  pub log : Writes (log_of (session_of number)) (0 ∷ []) old made
  pub gives : Gives (start_ops store.nodes name number) store made new

-- the log alone is changed, in any way
pub record MakesLog (store : StoreValue) (old new : Image) : Type 0 where
  pub number : ℕ
  pub drawn : IsDrawable store.nodes number
  pub writes : MayWrite (log_of (session_of number)) old new

-- the log is made anew, and then the nodes are changed or not
pub record MakesLogFirst (name : List ℕ) (store : StoreValue) (old new : Image) : Type 0 where
  pub number : ℕ
  pub drawn : IsDrawable store.nodes number
  pub made : Image
  pub log : Writes (log_of (session_of number)) (0 ∷ []) old made
  pub gives : MayGive (start_ops store.nodes name number) store made new

-- what a stop or a crash on the way leaves
abbrev pub MayStart : List ℕ → StoreValue → Image → Image → Type 0
MayStart name store old new = Stays old new ⊎ MakesLog store old new ⊎ MakesLogFirst name store old new

-- ---- why it stops

-- why no session can be drawn, whatever the room
abbrev pub PlanCause : Nodes → Stop → Type 0
PlanCause nodes (Host fault) = ⊥
PlanCause nodes (Damaged name) = (name ≡ nodes_name) × IsNoCounter nodes next_session_path
PlanCause nodes Full = (number : ℕ) × IsNext nodes next_session_path number × (2 ^ 63 ≤ number + 1)
PlanCause nodes NoMemory = Unit {0}

-- the next number is the last one, or there is no room for the changes
pub record IsStartFull (name : List ℕ) (store : StoreValue) : Type 0 where
  pub number : ℕ
  pub next : IsNext store.nodes next_session_path number
  pub full : (2 ^ 63 ≤ number + 1) ⊎ IsFull (start_ops store.nodes name number) store

-- why no server was started
abbrev pub StartCause : List ℕ → StoreValue → Stop → HostState → HostState → Type 0
StartCause name store (Host fault) old new = IsOfFiles fault × Faulted fault old new
StartCause name store (Damaged file) old new = (file ≡ nodes_name) × IsNoCounter store.nodes next_session_path
StartCause name store Full old new = IsStartFull name store
StartCause name store NoMemory old new = Unit {0}
