-- What the change that draws a number makes of the nodes.
use Rattle.std.proofs.Common.{◌≡◌, ◌≢◌, ◌⊎◌, inl, inr, ⊎_elim, ℕ, ◌+◌, ◌^◌, ◌<◌, Bool, true, false, cond, List, [], codes, Some, None, Result, Ok, Err, refl, sym, ◌∙◌, ap, subst, arith}
use Rattle.std.specs.Prelude.{nat_lt}
use Rattle.std.specs.FinMap as map
use Rattle.std.specs.FinMap.{get-insert, slice_cmp-IsAntisymmetric, nat_cmp-IsAntisymmetric}
use Rattle.std.specs.Fmt.{decimal}
use Rattle.std.specs.Ordering.{eq_by_cmp, is_eq}
use Rattle.std.specs.declared.cmp.Ordering.{Ordering}
use Rattle.std.specs.declared.cmp.Ordering.TheVariants.{Less, Equal, Greater}
use Rattle.std.specs.Cmp.Lexicographic.{nat_list_cmp_total}
use Rattle.std.proofs.lemmas.Cmp.{eq_by_cmp_equiv}
use Rattle.host_model.specs.declared.fault.Stop.TheVariants.{Full}
use Rattle.node_store.specs.declared.changes.Node.{Node}
use Rattle.node_store.specs.declared.changes.NodeOp.TheVariants.{Set}
use Rattle.node_store.specs.declared.changes.NodeStop.{NodeStop}
use Rattle.node_store.specs.declared.changes.NodeStop.TheVariants.{Stop}
use Rattle.node_store.specs.Nodes.{Nodes, turned, raised, and_then, multi_applied}
use Rattle.node_store.specs.PathsTo.{path_cmp, with_entry}
use Rattle.store_layout.specs.Nodes.{IsNext, draw_ops, next_name_path}
use Rattle.kept_meaning.specs.Nodes.{RaisesCounter}
use Rattle.kept_meaning.proofs.DrawnLemmas.{one_next}
use Rattle.ground_store.specs.Drawing.{HasDrawn, IsDrawn}

is_equal : (o : Ordering) → is_eq o ≡ true → o ≡ Equal
is_equal Less is = cc
is_equal Equal is = refl
is_equal Greater is = cc

not_same : (path other : List ℕ) → other ≢ path → eq_by_cmp path_cmp other path ≡ false
not_same path other apart = by (eq_by_cmp path_cmp other path) refl
  where
    by : (b : Bool) → eq_by_cmp path_cmp other path ≡ b → eq_by_cmp path_cmp other path ≡ false
    by true is = absurd (apart (slice_cmp-IsAntisymmetric nat_cmp-IsAntisymmetric other path (is_equal (path_cmp other path) is)))
    by false is = is

-- the node behind the change
abbrev drawn_node : Node → ℕ → Node
drawn_node node number = record { value = decimal (number + 1); version = node.version + 1 }

-- the change is made, or the version has reached its end
drawn_either : (nodes : Nodes) (path : List ℕ) (number : ℕ) (node : Node) → map.get nodes path ≡ Some node
    → (multi_applied (draw_ops path number) nodes ≡ Ok (map.insert nodes path (drawn_node node number))) ⊎ (multi_applied (draw_ops path number) nodes ≡ Err (Stop Full))
drawn_either nodes path number node there = at (nat_lt (node.version + 1) (2 ^ 63)) refl
  where
    made : multi_applied (draw_ops path number) nodes ≡ and_then (and_then (raised node (decimal (number + 1))) (λ after. Ok (with_entry nodes path after))) (λ after. Ok after)
    made = ap (λ o. and_then (and_then (turned (Set path (decimal (number + 1)) None) o) (λ after. Ok (with_entry nodes path after))) (λ after. multi_applied [] after)) there

    behind : (b : Bool) → nat_lt (node.version + 1) (2 ^ 63) ≡ b
        → multi_applied (draw_ops path number) nodes ≡ and_then (and_then (cond b (Ok (Some (drawn_node node number))) (Err (Stop Full))) (λ after. Ok (with_entry nodes path after))) (λ after. Ok after)
    behind b is = made ∙ ap (λ t. and_then (and_then (cond t (Ok (Some (drawn_node node number))) (Err (Stop Full))) (λ after. Ok (with_entry nodes path after))) (λ after. Ok after)) is

    at : (b : Bool) → nat_lt (node.version + 1) (2 ^ 63) ≡ b
        → (multi_applied (draw_ops path number) nodes ≡ Ok (map.insert nodes path (drawn_node node number))) ⊎ (multi_applied (draw_ops path number) nodes ≡ Err (Stop Full))
    at true is = inl (behind true is)
    at false is = inr (behind false is)

same_ok : {a b : Nodes} → ◌≡◌ {A = Result Nodes NodeStop} (Ok a) (Ok b) → a ≡ b
same_ok is = cc

no_ok : {stop : NodeStop} {b : Nodes} → ◌≡◌ {A = Result Nodes NodeStop} (Err stop) (Ok b) → ⊥
no_ok is = cc

-- the counter's node alone changes
inserted : (old new : Nodes) (number : ℕ) (node : Node) → map.get old next_name_path ≡ Some node → multi_applied (draw_ops next_name_path number) old ≡ Ok new → map.insert old next_name_path (drawn_node node number) ≡ new
inserted old new number node there made = ⊎_elim
    (λ done. same_ok (sym done ∙ made))
    (λ full. absurd (no_ok (sym full ∙ made)))
    (drawn_either old next_name_path number node there)

counter_after : (old : Nodes) (number : ℕ) (node : Node) → number + 1 < 2 ^ 63 → IsNext (map.insert old next_name_path (drawn_node node number)) next_name_path (number + 1)
counter_after old number node more = record {
  node = drawn_node node number;
  there = get-insert nat_list_cmp_total old next_name_path (drawn_node node number) next_name_path
      ∙ ap (λ b. cond b (Some (drawn_node node number)) (map.get old next_name_path)) ((eq_by_cmp_equiv nat_list_cmp_total).refl next_name_path);
  value = record { is = refl; least = omega arith; most = more };
}

-- the number was drawn where its change was made
pub has_drawn : (old new : Nodes) (number : ℕ) → IsDrawn old number → multi_applied (draw_ops next_name_path number) old ≡ Ok new → HasDrawn number old new
has_drawn old new number drawn made = record {
  was = drawn.next;
  is = subst (λ nodes. IsNext nodes next_name_path (number + 1)) (inserted old new number drawn.next.node drawn.next.there made) (counter_after old number drawn.next.node drawn.more);
  drawn = made;
}

-- the number that was drawn is the one that was planned
pub drawn_as : (old new : Nodes) (planned number : ℕ) → IsDrawn old planned → HasDrawn number old new → HasDrawn planned old new
drawn_as old new planned number plan drawn = subst (λ n. HasDrawn n old new) (one_next old next_name_path number planned drawn.was plan.next) drawn

others_stay : (old : Nodes) (number : ℕ) (node : Node) (other : List ℕ) → other ≢ next_name_path → map.get (map.insert old next_name_path (drawn_node node number)) other ≡ map.get old other
others_stay old number node other apart = get-insert nat_list_cmp_total old next_name_path (drawn_node node number) other
    ∙ ap (λ b. cond b (Some (drawn_node node number)) (map.get old other)) (not_same next_name_path other apart)

-- so the counter rises, and no other node changes
pub raises : (old new : Nodes) (number : ℕ) → HasDrawn number old new → RaisesCounter old new next_name_path
raises old new number drawn = record {
  of = (codes "name", refl);
  raised = λ before is. (number + 1, drawn.is, let one = one_next old next_name_path before number is drawn.was in omega (arith, one));
  others = λ other apart. subst (λ nodes. map.get nodes other ≡ map.get old other) (inserted old new number drawn.was.node drawn.was.there drawn.drawn) (others_stay old number drawn.was.node other apart);
}
