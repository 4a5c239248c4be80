-- How the number of a file's name is drawn.
use Rattle.std.specs.Prelude.{◌≡◌, ◌⊎◌, ℕ, ◌+◌, ◌^◌, ◌<◌, ◌≤◌, Ok}
use Rattle.host_model.specs.Picture.{Image}
use Rattle.host_model.specs.State.{HostState}
use Rattle.host_model.specs.Calls.{IsOfFiles, Faulted}
use Rattle.host_model.specs.declared.fault.Stop.{Stop}
use Rattle.host_model.specs.declared.fault.Stop.TheVariants.{Host, Damaged, Full, NoMemory}
use Rattle.node_store.specs.Nodes.{Nodes, multi_applied}
use Rattle.node_store.specs.Answers.{IsFull}
use Rattle.node_store.specs.Value.{StoreValue}
use Rattle.node_store.specs.Steps.{MayGive, Gives}
use Rattle.store_layout.specs.Names.{nodes_name}
use Rattle.store_layout.specs.Nodes.{IsNext, IsNoCounter, draw_ops, next_name_path}
use Rattle.ground_store.specs.Steps.{Stays}

-- the number was the next one, and the nodes say the one after it, and change in nothing else
pub record HasDrawn (number : ℕ) (old new : Nodes) : Type 0 where
  pub was : IsNext old next_name_path number
  pub is : IsNext new next_name_path (number + 1)
  pub drawn : multi_applied (draw_ops next_name_path number) old ≡ Ok new

-- the image's nodes draw their next number
pub record Draws (store : StoreValue) (old new : Image) : Type 0 where
  pub number : ℕ
  pub next : IsNext store.nodes next_name_path number
  pub gives : Gives (draw_ops next_name_path number) store old new

-- they draw it or not
pub record HalfDraws (store : StoreValue) (old new : Image) : Type 0 where
  pub number : ℕ
  pub next : IsNext store.nodes next_name_path number
  pub gives : MayGive (draw_ops next_name_path number) store old new

-- nothing changes, or the next number is drawn, or not
abbrev pub MayDraw : StoreValue → Image → Image → Type 0
MayDraw store old new = Stays old new ⊎ HalfDraws store old new

-- the next number is the last one, or there is no room for the change
pub record IsDrawFull (store : StoreValue) : Type 0 where
  pub number : ℕ
  pub next : IsNext store.nodes next_name_path number
  pub full : (2 ^ 63 ≤ number + 1) ⊎ IsFull (draw_ops next_name_path number) store

-- why no number was drawn
abbrev pub DrawCause : StoreValue → Stop → HostState → HostState → Type 0
DrawCause store (Host fault) old new = IsOfFiles fault × Faulted fault old new
DrawCause store (Damaged name) old new = (name ≡ nodes_name) × IsNoCounter store.nodes next_name_path
DrawCause store Full old new = IsDrawFull store
DrawCause store NoMemory old new = Unit {0}

-- a stop that is no fault of the host
abbrev pub IsOwn : Stop → Type 0
IsOwn (Host fault) = ⊥
IsOwn (Damaged name) = Unit {0}
IsOwn Full = Unit {0}
IsOwn NoMemory = Unit {0}

-- the number is the next one, and one more can be drawn behind it
pub record IsDrawn (nodes : Nodes) (number : ℕ) : Type 0 where
  pub next : IsNext nodes next_name_path number
  pub more : number + 1 < 2 ^ 63

-- why none can be drawn, whatever the room
abbrev pub PlanCause : Nodes → Stop → Type 0
PlanCause nodes (Host fault) = ⊥
PlanCause nodes (Damaged name) = (name ≡ nodes_name) × IsNoCounter nodes next_name_path
PlanCause nodes Full = (number : ℕ) × IsNext nodes next_name_path number × (2 ^ 63 ≤ number + 1)
PlanCause nodes NoMemory = Unit {0}
