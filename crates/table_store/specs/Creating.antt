-- What the private functions that make a table ensure.
use Rattle.std.specs.Prelude.{◌≡◌, ℕ, ◌+◌, ◌≤◌, ◌^◌, List, [], ◌∷◌, ◌++◌, None}
use Rattle.host_model.specs.State.{HostState}
use Rattle.host_model.specs.Calls.{IsOfFiles, Faulted}
use Rattle.host_model.specs.declared.fault.Stop.{Stop}
use Rattle.host_model.specs.declared.fault.Stop.TheVariants.{Host, Damaged, Full, NoMemory}
use Rattle.node_store.specs.declared.changes.NodeOp.{NodeOp}
use Rattle.node_store.specs.Value.{StoreValue}
use Rattle.node_store.specs.Answers.{IsFull}
use Rattle.plain_model.specs.declared.operation.Op.TheVariants.{Create}
use Rattle.plain_model.specs.declared.operation.Source.TheVariants.{Line}
use Rattle.plain_model.specs.declared.operation.Entry.{Entry}

-- the entry of a `createtable` at this line
abbrev pub creation : ℕ → List ℕ → List ℕ → Entry
creation line id name = record { op = Create id name []; source = Line line; line = line; lock = None }

-- why no number was drawn
abbrev pub DrawStops : Stop → ℕ → Type 0
DrawStops (Host fault) next = ⊥
DrawStops (Damaged named) next = ⊥
DrawStops Full next = 2 ^ 63 ≤ next + 1
DrawStops NoMemory next = Unit {0}

-- Why an entry wasn't committed. Only a fault of the host leaves it behind the others.
abbrev pub CommitStops : Stop → List NodeOp → StoreValue → Entry → List Entry → List Entry → HostState → HostState → Type 0
CommitStops (Host fault) ops store entry before after old new = IsOfFiles fault × Faulted fault old new × (after ≡ before ++ entry ∷ [])
CommitStops (Damaged named) ops store entry before after old new = ⊥
CommitStops Full ops store entry before after old new = (after ≡ before) × IsFull ops store
CommitStops NoMemory ops store entry before after old new = after ≡ before

-- the stop names no file
abbrev pub IsUnnamed : Stop → Type 0
IsUnnamed (Host fault) = Unit {0}
IsUnnamed (Damaged named) = ⊥
IsUnnamed Full = Unit {0}
IsUnnamed NoMemory = Unit {0}
