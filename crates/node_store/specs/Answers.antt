-- Why the calls of a node store stop.
use Rattle.std.specs.Prelude.{◌≡◌, ◌⊎◌, ℕ, List, Result, Err, IsOk, IsTrue}
use Rattle.host_model.specs.State.{HostState}
use Rattle.host_model.specs.Kinds.{IsLook}
use Rattle.host_model.specs.declared.fault.Stop as stop
use Rattle.host_model.specs.declared.fault.Stop.TheVariants.{Host, Damaged, Full, NoMemory}
use Rattle.journal_core.specs.Journal as journal
use Rattle.node_store.specs.declared.changes.NodeOp.{NodeOp}
use Rattle.node_store.specs.declared.changes.NodeStop.{NodeStop}
use Rattle.node_store.specs.declared.changes.NodeStop.TheVariants.{Exists, Missing, Version, Stop}
use Rattle.node_store.specs.Nodes.{multi_applied}
use Rattle.node_store.specs.Multi.{spelled_multi}
use Rattle.node_store.specs.Value.{StoreValue}
use Rattle.node_store.specs.Image.{HasNoNodes}

-- a version would reach its end, or the changes apply and there is no room for them
abbrev pub IsFull : List NodeOp → StoreValue → Type 0
IsFull ops store = (multi_applied ops store.nodes ≡ Err (Stop Full)) ⊎ (IsOk (multi_applied ops store.nodes) × journal.IsFull store.end (spelled_multi ops))

-- a multi has to stop so
abbrev pub IsDue : List NodeOp → StoreValue → NodeStop → Type 0
IsDue ops store Exists = multi_applied ops store.nodes ≡ Err Exists
IsDue ops store Missing = multi_applied ops store.nodes ≡ Err Missing
IsDue ops store (Version found) = multi_applied ops store.nodes ≡ Err (Version found)
IsDue ops store (Stop (Host fault)) = ⊥
IsDue ops store (Stop (Damaged name)) = ⊥
IsDue ops store (Stop Full) = IsFull ops store
IsDue ops store (Stop NoMemory) = ⊥

-- why a multi may stop: it has to, or for a fault, or for want of memory
abbrev pub MultiCause : List NodeOp → StoreValue → NodeStop → HostState → HostState → Type 0
MultiCause ops store Exists old new = IsDue ops store Exists
MultiCause ops store Missing old new = IsDue ops store Missing
MultiCause ops store (Version found) old new = IsDue ops store (Version found)
MultiCause ops store (Stop (Host fault)) old new = journal.IsCounted fault old new
MultiCause ops store (Stop (Damaged name)) old new = ⊥
MultiCause ops store (Stop Full) old new = IsDue ops store (Stop Full)
MultiCause ops store (Stop NoMemory) old new = Unit {0}

-- the changes are refused: the nodes aren't as they ask
abbrev pub IsRefusal : NodeStop → Type 0
IsRefusal Exists = Unit {0}
IsRefusal Missing = Unit {0}
IsRefusal (Version found) = Unit {0}
IsRefusal (Stop stop) = ⊥

-- a stop before any call of the host
abbrev pub IsEarly : NodeStop → Type 0
IsEarly Exists = Unit {0}
IsEarly Missing = Unit {0}
IsEarly (Version found) = Unit {0}
IsEarly (Stop (Host fault)) = ⊥
IsEarly (Stop (Damaged name)) = ⊥
IsEarly (Stop Full) = Unit {0}
IsEarly (Stop NoMemory) = Unit {0}

-- it answers so, or stops for want of memory
pub record AnswersOrNoMemory {T : Type 0} (answer result : Result T NodeStop) : Type 0 where
  pub either : (result ≡ answer) ⊎ (result ≡ Err (Stop NoMemory))

-- Why an opening may stop. Where the file is damaged, the last call only asked.
abbrev pub OpenCause : List ℕ → stop.Stop → HostState → HostState → Type 0
OpenCause name (Host fault) old new = journal.IsCounted fault old new
OpenCause name (Damaged damaged) old new = (damaged ≡ name) × (IsTrue old.is_faithful → HasNoNodes name old.files) × IsLook new.last
OpenCause name Full old new = ⊥
OpenCause name NoMemory old new = Unit {0}
