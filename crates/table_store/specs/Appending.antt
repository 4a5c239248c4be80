-- What the private functions that change the nodes ensure.
use Rattle.std.specs.Prelude.{◌≡◌, ◌⊎◌, List, Result, Err, MatchResult, ⊤}
use Rattle.host_model.specs.State.{HostState}
use Rattle.host_model.specs.Calls.{IsOfFiles, Faulted}
use Rattle.host_model.specs.declared.fault.Stop.{Stop}
use Rattle.host_model.specs.declared.fault.Stop.TheVariants.{Host, Damaged, Full, NoMemory}
use Rattle.node_store.specs.declared.changes.NodeOp.{NodeOp}
use Rattle.node_store.specs.declared.changes.NodeStop.TheVariants.{Stop as Stopped}
use Rattle.node_store.specs.Nodes.{Nodes, multi_applied}
use Rattle.node_store.specs.Value.{StoreValue}
use Rattle.node_store.specs.Answers.{IsFull}

-- the changes apply, but for a version at its end
pub record Applies (ops : List NodeOp) (nodes : Nodes) : Type 0 where
  pub applies : MatchResult (multi_applied ops nodes) (λ after. ⊤) (λ stop. stop ≡ Stopped Full)

-- why changes that apply aren't made
abbrev pub AppendStops : List NodeOp → StoreValue → Stop → HostState → HostState → Type 0
AppendStops ops store (Host fault) old new = IsOfFiles fault × Faulted fault old new
AppendStops ops store (Damaged named) old new = ⊥
AppendStops ops store Full old new = IsFull ops store
AppendStops ops store NoMemory old new = Unit {0}

-- it answers that it is full, or that memory is short
abbrev pub IsFullOrNoMemory : {T : Type 0} → Result T Stop → Type 0
IsFullOrNoMemory result = (result ≡ Err Full) ⊎ (result ≡ Err NoMemory)
