-- What the change that draws a number makes of the nodes, and of a ground.
use Rattle.std.proofs.Common.{◌≡◌, ◌⊎◌, inl, inr, ⊎_elim, ℕ, ◌+◌, ◌<◌, ◌≤◌, ◌^◌, Bool, true, false, cond, List, [], Option, Some, None, Ok, Err, refl, sym, ◌∙◌, ap, subst, arith}
use Rattle.std.specs.Prelude.{nat_lt}
use Rattle.std.specs.FinMap as map
use Rattle.std.specs.FinMap.{get-insert}
use Rattle.std.specs.Fmt.{decimal}
use Rattle.std.specs.Cmp.Lexicographic.{nat_list_cmp_total}
use Rattle.std.proofs.lemmas.Cmp.{eq_by_cmp_equiv}
use Rattle.std.proofs.lemmas.Fmt.{decimal_injective}
use Rattle.host_model.specs.declared.fault.Stop as halt
use Rattle.host_model.specs.declared.fault.Stop.TheVariants.{Full}
use Rattle.node_store.specs.declared.changes.Node.{Node}
use Rattle.node_store.specs.declared.changes.NodeOp.{NodeOp}
use Rattle.node_store.specs.declared.changes.NodeOp.TheVariants.{Set}
use Rattle.node_store.specs.declared.changes.NodeStop.TheVariants.{Stop}
use Rattle.node_store.specs.Nodes.{Nodes, turned, raised, and_then, multi_applied}
use Rattle.node_store.specs.Value.{StoreValue}
use Rattle.node_store.specs.Answers.{IsFull, AnswersOrNoMemory}
use Rattle.node_store.specs.PathsTo.{with_entry}
use Rattle.store_layout.specs.Nodes.{IsNext, draw_ops, next_name_path}
use Rattle.ground_store.specs.Value.{Logs, GroundValue}
use Rattle.ground_store.specs.Drawing.{HasDrawn, IsDrawn, IsDrawFull}

-- the node behind the change
abbrev drawn_node : Node → ℕ → Node
drawn_node node number = record { value = decimal (number + 1); version = node.version + 1 }

-- the change is made, or the version has reached its end
drawn_either : (nodes : Nodes) (path : List ℕ) (number : ℕ) (node : Node) → map.get nodes path ≡ Some node
    → (multi_applied (draw_ops path number) nodes ≡ Ok (map.insert nodes path (drawn_node node number))) ⊎ (multi_applied (draw_ops path number) nodes ≡ Err (Stop Full))
drawn_either nodes path number node there = at (nat_lt (node.version + 1) (2 ^ 63)) refl
  where
    made : multi_applied (draw_ops path number) nodes ≡ and_then (and_then (raised node (decimal (number + 1))) (λ after. Ok (with_entry nodes path after))) (λ after. Ok after)
    made = ap (λ o. and_then (and_then (turned (Set path (decimal (number + 1)) None) o) (λ after. Ok (with_entry nodes path after))) (λ after. multi_applied [] after)) there

    behind : (b : Bool) → nat_lt (node.version + 1) (2 ^ 63) ≡ b
        → multi_applied (draw_ops path number) nodes ≡ and_then (and_then (cond b (Ok (Some (drawn_node node number))) (Err (Stop Full))) (λ after. Ok (with_entry nodes path after))) (λ after. Ok after)
    behind b is = made ∙ ap (λ t. and_then (and_then (cond t (Ok (Some (drawn_node node number))) (Err (Stop Full))) (λ after. Ok (with_entry nodes path after))) (λ after. Ok after)) is

    at : (b : Bool) → nat_lt (node.version + 1) (2 ^ 63) ≡ b
        → (multi_applied (draw_ops path number) nodes ≡ Ok (map.insert nodes path (drawn_node node number))) ⊎ (multi_applied (draw_ops path number) nodes ≡ Err (Stop Full))
    at true is = inl (behind true is)
    at false is = inr (behind false is)

next_drawn : (nodes : Nodes) (path : List ℕ) (number : ℕ) (node : Node) → number + 1 < 2 ^ 63 → IsNext (map.insert nodes path (drawn_node node number)) path (number + 1)
next_drawn nodes path number node more = record {
  node = drawn_node node number;
  there = get-insert nat_list_cmp_total nodes path (drawn_node node number) path ∙ ap (λ b. cond b (Some (drawn_node node number)) (map.get nodes path)) ((eq_by_cmp_equiv nat_list_cmp_total).refl path);
  value = record { is = refl; least = omega arith; most = more };
}

-- the number behind a change that was made
pub has_drawn : (number : ℕ) (old new : Nodes) (ops : List NodeOp) → IsDrawn old number → ops ≡ draw_ops next_name_path number → multi_applied ops old ≡ Ok new → HasDrawn number old new
has_drawn number old new ops plan is made = at (drawn_either old next_name_path number plan.next.node plan.next.there)
  where
    given : multi_applied (draw_ops next_name_path number) old ≡ Ok new
    given = ap (λ l. multi_applied l old) (sym is) ∙ made

    at : (multi_applied (draw_ops next_name_path number) old ≡ Ok (map.insert old next_name_path (drawn_node plan.next.node number))) ⊎ (multi_applied (draw_ops next_name_path number) old ≡ Err (Stop Full)) → HasDrawn number old new
    at (inl done) =
        let same : map.insert old next_name_path (drawn_node plan.next.node number) ≡ new = cc in
        record { was = plan.next; is = subst (λ n. IsNext n next_name_path (number + 1)) same (next_drawn old next_name_path number plan.next.node plan.more); drawn = given }
    at (inr full) = absurd (let e : multi_applied (draw_ops next_name_path number) old ≡ Err (Stop Full) = full in cc)

-- one counter stands at one number
one_number : (nodes : Nodes) (path : List ℕ) (a b : ℕ) → IsNext nodes path a → IsNext nodes path b → a ≡ b
one_number nodes path a b one other =
    let same : one.node ≡ other.node = let h : map.get nodes path ≡ Some one.node = one.there in let k : map.get nodes path ≡ Some other.node = other.there in cc in
    decimal_injective a b (omega (arith, one.value.most)) (omega (arith, other.value.most)) (sym one.value.is ∙ ap (λ (n : Node). n.value) same ∙ other.value.is)

-- ---- want of room

-- where the number is the last one or there is no room, the change isn't made
pub full_not_made : (store : StoreValue) (number : ℕ) (ops : List NodeOp) → IsDrawn store.nodes number → ops ≡ draw_ops next_name_path number → IsDrawFull store → IsFull ops store
full_not_made store number ops plan is full = at full.full
  where
    same : full.number ≡ number
    same = one_number store.nodes next_name_path full.number number full.next plan.next

    at : (2 ^ 63 ≤ full.number + 1) ⊎ IsFull (draw_ops next_name_path full.number) store → IsFull ops store
    at (inl late) = absurd (omega (arith, same, late, plan.more))
    at (inr none) = subst (λ l. IsFull l store) (sym is) (subst (λ n. IsFull (draw_ops next_name_path n) store) same none)

-- ---- of the nodes that the value had

module _ {H : Type 0} {old : GroundValue H} {before : H} {nodes : StoreValue} {logs : Logs} {stopped : Option halt.Stop} (is : record { host = before; nodes = nodes; logs = logs; stopped = stopped } ≡ old) where
  pub own_plan : {number : ℕ} → IsDrawn nodes.nodes number → IsDrawn old.nodes.nodes number
  own_plan {number} plan = subst (λ (o : GroundValue H). IsDrawn o.nodes.nodes number) is plan

  pub own_alive : stopped ≡ None → old.stopped ≡ None
  own_alive alive = subst (λ (o : GroundValue H). o.stopped ≡ None) is alive

pub not_full : {T : Type 0} (u : T) → AnswersOrNoMemory {T = T} (Err (Stop Full)) (Ok u) → ⊥
not_full u answers = ⊎_elim (λ same. cc) (λ same. cc) answers.either
