-- When changes apply.
use Rattle.std.proofs.Common.{◌≡◌, ◌⊎◌, inl, inr, ℕ, ◌+◌, ◌^◌, nat_lt, Bool, true, false, cond, List, [], ◌∷◌, Option, Some, None, Result, Ok, Err, refl, sym, ap, subst}
use Rattle.std.specs.Prelude.{⊤, MatchResult}
use Rattle.std.specs.Option.{option_map}
use Rattle.std.specs.FinMap as map
use Rattle.host_model.specs.declared.fault.Stop.TheVariants.{Full}
use Rattle.node_store.specs.declared.changes.Node.{Node}
use Rattle.node_store.specs.declared.changes.NodeOp.{NodeOp}
use Rattle.node_store.specs.declared.changes.NodeOp.TheVariants.{Create, Set, Delete}
use Rattle.node_store.specs.declared.changes.NodeStop.{NodeStop}
use Rattle.node_store.specs.declared.changes.NodeStop.TheVariants.{Stop}
use Rattle.node_store.specs.PathsTo.{with_entry}
use Rattle.node_store.specs.Nodes.{Nodes, turned, path_of, and_then, multi_applied}
use Rattle.fate_trial.specs.Layout.{value_at, written, Applies}
use Rattle.fate_trial.proofs.Values.{written-multi}

-- what the path has lets the change be made
abbrev pub IsReady : NodeOp → Option (List ℕ) → Type 0
IsReady (Create path value) None = Unit {0}
IsReady (Create path value) (Some old) = ⊥
IsReady (Set path value version) None = ⊥
IsReady (Set path value None) (Some old) = Unit {0}
IsReady (Set path value (Some version)) (Some old) = ⊥
IsReady (Delete path version) None = ⊥
IsReady (Delete path None) (Some old) = Unit {0}
IsReady (Delete path (Some version)) (Some old) = ⊥

-- one after another
abbrev pub AreReady : List NodeOp → (List ℕ → Option (List ℕ)) → Type 0
AreReady [] values = Unit {0}
AreReady (op ∷ more) values = IsReady op (values (path_of op)) × ((after : List ℕ → Option (List ℕ)) → ((q : List ℕ) → after q ≡ written (op ∷ []) q (values q)) → AreReady more after)

abbrev Turns : Result (Option Node) NodeStop → Type 0
Turns r = ((w : Option Node) × (r ≡ Ok w)) ⊎ (r ≡ Err (Stop Full))

raises : (b : Bool) (w : Option Node) → Turns (cond b (Ok w) (Err (Stop Full)))
raises true w = inl (w, refl)
raises false w = inr refl

ready : (op : NodeOp) (found : Option Node) → IsReady op (option_map (λ (n : Node). n.value) found) → Turns (turned op found)
ready (Create path value) None is = inl (Some (record { value = value; version = 0 }), refl)
ready (Create path value) (Some node) is = absurd is
ready (Set path value version) None is = absurd is
ready (Set path value None) (Some node) is = raises (nat_lt (node.version + 1) (2 ^ 63)) (Some (record { value = value; version = node.version + 1 }))
ready (Set path value (Some version)) (Some node) is = absurd is
ready (Delete path version) None is = absurd is
ready (Delete path None) (Some node) is = inl (None, refl)
ready (Delete path (Some version)) (Some node) is = absurd is

abbrev DoesApply : Result Nodes NodeStop → Type 0
DoesApply r = MatchResult r (λ after. ⊤) (λ stop. stop ≡ Stop Full)

one_made : (op : NodeOp) (nodes : Nodes) (w : Option Node) → turned op (map.get nodes (path_of op)) ≡ Ok w → multi_applied (op ∷ []) nodes ≡ Ok (with_entry nodes (path_of op) w)
one_made op nodes w is = ap (λ (r : Result (Option Node) NodeStop). and_then (and_then r (λ o. Ok (with_entry nodes (path_of op) o))) (λ n. Ok n)) is

found_ready : (op : NodeOp) (nodes : Nodes) → IsReady op (value_at nodes (path_of op)) → Turns (turned op (map.get nodes (path_of op)))
unfolding value_at
found_ready op nodes is = ready op (map.get nodes (path_of op)) is

multi_ready : (ops : List NodeOp) (nodes : Nodes) → AreReady ops (λ q. value_at nodes q) → DoesApply (multi_applied ops nodes)
multi_ready [] nodes are = tt
multi_ready (op ∷ more) nodes are = at (λ n is. multi_ready more n (are.1 (λ q. value_at n q) is)) (found_ready op nodes are.0)
  where
    at : ((n : Nodes) → ((q : List ℕ) → value_at n q ≡ written (op ∷ []) q (value_at nodes q)) → DoesApply (multi_applied more n)) → Turns (turned op (map.get nodes (path_of op)))
        → DoesApply (and_then (and_then (turned op (map.get nodes (path_of op))) (λ o. Ok (with_entry nodes (path_of op) o))) (λ n. multi_applied more n))
    at rest (inl made) =
        subst (λ (r : Result (Option Node) NodeStop). DoesApply (and_then (and_then r (λ o. Ok (with_entry nodes (path_of op) o))) (λ n. multi_applied more n))) (sym made.1)
        (rest (with_entry nodes (path_of op) made.0) (written-multi (op ∷ []) nodes (with_entry nodes (path_of op) made.0) (one_made op nodes made.0 made.1)))
    at rest (inr full) = subst (λ (r : Result (Option Node) NodeStop). DoesApply (and_then (and_then r (λ o. Ok (with_entry nodes (path_of op) o))) (λ n. multi_applied more n))) (sym full) refl

pub applies_ready : (ops : List NodeOp) (nodes : Nodes) → AreReady ops (λ q. value_at nodes q) → Applies ops nodes
applies_ready ops nodes are = record { applies = multi_ready ops nodes are }
