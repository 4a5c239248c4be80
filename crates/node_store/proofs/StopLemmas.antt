-- Why a multi stops before it calls the host.
use Rattle.std.proofs.Common.{◌≡◌, ◌⊎◌, inl, inr, ◌+◌, ◌^◌, Bool, true, false, cond, nat_lt, List, [], ◌∷◌, Option, Some, None, Result, Ok, Err, IfErr, refl, sym, subst}
use Rattle.std.specs.FinMap as finite
use Rattle.host_model.specs.State.{HostState}
use Rattle.host_model.specs.declared.fault.Stop.TheVariants.{Host, Damaged, Full, NoMemory}
use Rattle.node_store.specs.declared.changes.Node.{Node}
use Rattle.node_store.specs.declared.changes.NodeOp.{NodeOp}
use Rattle.node_store.specs.declared.changes.NodeOp.TheVariants.{Create, Set, Delete}
use Rattle.node_store.specs.declared.changes.NodeStop.{NodeStop}
use Rattle.node_store.specs.declared.changes.NodeStop.TheVariants.{Exists, Missing, Version, Stop}
use Rattle.node_store.specs.PathsTo.{with_entry}
use Rattle.node_store.specs.Nodes.{Nodes, allows, raised, turned, path_of, and_then, multi_applied}
use Rattle.node_store.specs.Value.{StoreValue}
use Rattle.node_store.specs.Answers.{MultiCause}

-- the stops of changes that don't apply
abbrev CanRefuse : NodeStop → Type 0
CanRefuse Exists = Unit {0}
CanRefuse Missing = Unit {0}
CanRefuse (Version found) = Unit {0}
CanRefuse (Stop (Host fault)) = ⊥
CanRefuse (Stop (Damaged name)) = ⊥
CanRefuse (Stop Full) = Unit {0}
CanRefuse (Stop NoMemory) = ⊥

same_stop : {A : Type 0} (a b : NodeStop) (left right : Result A NodeStop) → left ≡ Err a → right ≡ Err b → left ≡ right → CanRefuse a → CanRefuse b
same_stop a b left right is_a is_b same can = let e : a ≡ b = cc (is_a, is_b, same) in subst CanRefuse e can

raised-stop : (node : Node) (value : List _) (stop : NodeStop) → raised node value ≡ Err stop → CanRefuse stop
raised-stop node value stop is = at (nat_lt (node.version + 1) (2 ^ 63)) is
  where
    at : (b : Bool) → cond {A = Result (Option Node) NodeStop} b (Ok (Some (record { value = value; version = node.version + 1 }))) (Err (Stop Full)) ≡ Err stop → CanRefuse stop
    at true e = cc e
    at false e = same_stop (Stop Full) stop _ _ refl refl e tt

turned-stop : (op : NodeOp) (found : Option Node) (stop : NodeStop) → turned op found ≡ Err stop → CanRefuse stop
turned-stop (Create path value) None stop is = cc is
turned-stop (Create path value) (Some node) stop is = same_stop Exists stop _ _ refl refl is tt
turned-stop (Set path value version) None stop is = same_stop Missing stop _ _ refl refl is tt
turned-stop (Set path value version) (Some node) stop is = at (allows version node.version) is
  where
    at : (b : Bool) → cond {A = Result (Option Node) NodeStop} b (raised node value) (Err (Version node.version)) ≡ Err stop → CanRefuse stop
    at true e = raised-stop node value stop e
    at false e = same_stop (Version node.version) stop _ _ refl refl e tt
turned-stop (Delete path version) None stop is = same_stop Missing stop _ _ refl refl is tt
turned-stop (Delete path version) (Some node) stop is = at (allows version node.version) is
  where
    at : (b : Bool) → cond {A = Result (Option Node) NodeStop} b (Ok None) (Err (Version node.version)) ≡ Err stop → CanRefuse stop
    at true e = cc e
    at false e = same_stop (Version node.version) stop _ _ refl refl e tt

multi_applied-stop : (ops : List NodeOp) (m : Nodes) (stop : NodeStop) → multi_applied ops m ≡ Err stop → CanRefuse stop
multi_applied-stop [] m stop is = cc is
multi_applied-stop (op ∷ more) m stop is =
    elim (turned op (finite.get m (path_of op))) as (λ r. turned op (finite.get m (path_of op)) ≡ r → and_then (and_then r (λ o. Ok (with_entry m (path_of op) o))) (λ n. multi_applied more n) ≡ Err stop → CanRefuse stop) [
      | Ok o ↦ λ made rest. multi_applied-stop more (with_entry m (path_of op) o) stop rest
      | Err refusal ↦ λ made rest. same_stop refusal stop _ _ refl refl rest (turned-stop op (finite.get m (path_of op)) refusal made)
    ] refl is

-- why one stops before it calls the host
pub early_cause : (ops : List NodeOp) (store : StoreValue) (stop : NodeStop) (state : HostState) → (multi_applied ops store.nodes ≡ Err stop) ⊎ (stop ≡ Stop NoMemory) → MultiCause ops store stop state state
early_cause ops store stop state (inr memory) = subst (λ s. MultiCause ops store s state state) (sym memory) tt
early_cause ops store stop state (inl refused) = at stop refused (multi_applied-stop ops store.nodes stop refused)
  where
    at : (s : NodeStop) → multi_applied ops store.nodes ≡ Err s → CanRefuse s → MultiCause ops store s state state
    at Exists is can = is
    at Missing is can = is
    at (Version found) is can = is
    at (Stop (Host fault)) is can = absurd can
    at (Stop (Damaged name)) is can = can
    at (Stop Full) is can = inl is
    at (Stop NoMemory) is can = tt

pub early_causes : (ops : List NodeOp) (store : StoreValue) {T : Type 0} (result : Result T NodeStop) (stop : NodeStop) (state : HostState) → result ≡ Err stop → (multi_applied ops store.nodes ≡ Err stop) ⊎ (stop ≡ Stop NoMemory) → IfErr result (λ s. MultiCause ops store s state state)
early_causes ops store result stop state is why = rw is (early_cause ops store stop state why)
