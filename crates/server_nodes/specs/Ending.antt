-- How the nodes of servers are taken out.
use Rattle.std.specs.Prelude.{List, [], ◌∷◌, ℕ, codes, map, not, None}
use Rattle.std.specs.FinMap as finite
use Rattle.host_model.specs.Picture.{Image}
use Rattle.host_model.specs.State.{HostState}
use Rattle.host_model.specs.Calls.{IsOfFiles, Faulted}
use Rattle.host_model.specs.declared.fault.Stop.{Stop}
use Rattle.host_model.specs.declared.fault.Stop.TheVariants.{Host, Damaged, Full, NoMemory}
use Rattle.node_store.specs.declared.changes.NodeOp.{NodeOp}
use Rattle.node_store.specs.declared.changes.NodeOp.TheVariants.{Delete}
use Rattle.node_store.specs.Nodes.{Nodes}
use Rattle.node_store.specs.Answers.{IsFull}
use Rattle.node_store.specs.Children.{children_of, is_child}
use Rattle.node_store.specs.Value.{StoreValue}
use Rattle.node_store.specs.Steps.{MayGive, Gives}
use Rattle.ground_store.specs.Steps.{Stays}

abbrev pub delete_op : List ℕ → NodeOp
delete_op path = Delete path None

-- the paths of all servers, in byte order
abbrev pub servers_in : Nodes → List (List ℕ)
servers_in nodes = children_of (codes "/servers") (finite.keys nodes)

-- each server's node is taken out
abbrev pub clear_ops : Nodes → List NodeOp
clear_ops nodes = map delete_op (servers_in nodes)

-- the nodes but those of servers
abbrev pub without_servers : Nodes → Nodes
without_servers nodes = finite.retain_keys nodes (λ path. not (is_child (codes "/servers") path))

-- there are no changes and nothing changes, or they are made
abbrev pub GivesAny : List NodeOp → StoreValue → Image → Image → Type 0
GivesAny [] store old new = Stays old new
GivesAny (op ∷ more) store old new = Gives (op ∷ more) store old new

abbrev pub MayGiveAny : List NodeOp → StoreValue → Image → Image → Type 0
MayGiveAny [] store old new = Stays old new
MayGiveAny (op ∷ more) store old new = MayGive (op ∷ more) store old new

-- why nodes weren't taken out
abbrev pub TakeCause : List NodeOp → StoreValue → Stop → HostState → HostState → Type 0
TakeCause ops store (Host fault) old new = IsOfFiles fault × Faulted fault old new
TakeCause ops store (Damaged file) old new = ⊥
TakeCause ops store Full old new = IsFull ops store
TakeCause ops store NoMemory old new = Unit {0}
