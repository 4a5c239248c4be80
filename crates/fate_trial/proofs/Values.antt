-- What changes make of the values of nodes.
use Rattle.std.proofs.Common.{◌≡◌, ◌≢◌, ℕ, ◌+◌, ◌^◌, nat_lt, Bool, true, false, cond, List, [], ◌∷◌, Option, Some, None, Result, Ok, Err, refl, sym, ◌∙◌, ap}
use Rattle.std.specs.Option.{option_map}
use Rattle.std.specs.Ordering.{eq_by_cmp}
use Rattle.std.specs.FinMap as map
use Rattle.std.proofs.lemmas.Map.Views.{tells_apart}
use Rattle.std.proofs.lemmas.Map.Lookups.{exact_bytes}
use Rattle.std.specs.Cmp.{eq_by_cmp_equiv}
use Rattle.std.specs.Cmp.Lexicographic.{nat_list_cmp_total}
use Rattle.node_store.specs.declared.changes.Node.{Node}
use Rattle.node_store.specs.declared.changes.NodeOp.{NodeOp}
use Rattle.node_store.specs.declared.changes.NodeOp.TheVariants.{Create, Set, Delete}
use Rattle.node_store.specs.declared.changes.NodeStop.{NodeStop}
use Rattle.node_store.specs.PathsTo.{path_cmp, with_entry}
use Rattle.node_store.specs.Nodes.{Nodes, allows, raised, turned, path_of, and_then, multi_applied}
use Rattle.node_store.proofs.PathMaps.{get-with_entry}
use Rattle.fate_trial.specs.Layout.{value_at, left_by, written}

-- ---- one change

cond-map : {A B : Type 0} (f : A → B) (b : Bool) (x y : Option A) → option_map f (cond b x y) ≡ cond b (option_map f x) (option_map f y)
cond-map f true x y = refl
cond-map f false x y = refl

value-entry : (nodes : Nodes) (k : List ℕ) (w : Option Node) (q : List ℕ) → value_at (with_entry nodes k w) q ≡ cond (eq_by_cmp path_cmp q k) (option_map (λ (n : Node). n.value) w) (value_at nodes q)
unfolding value_at
value-entry nodes k w q = ap (λ o. option_map (λ (n : Node). n.value) o) (get-with_entry nodes k w q) ∙ cond-map (λ (n : Node). n.value) (eq_by_cmp path_cmp q k) w (map.get nodes q)

if_ok : {A : Type 0} (b : Bool) (x y : A) (e : NodeStop) → (cond b (Ok x) (Err e)) ≡ Ok y → x ≡ y
if_ok true x y e is = cc
if_ok false x y e is = absurd (cc)

after_set : (b : Bool) (node : Node) (value : List ℕ) (w : Option Node) (e : NodeStop) → cond b (raised node value) (Err e) ≡ Ok w → option_map (λ (n : Node). n.value) w ≡ Some value
after_set true node value w e is = ap (λ o. option_map (λ (n : Node). n.value) o) (sym (if_ok (nat_lt (node.version + 1) (2 ^ 63)) (Some (record { value = value; version = node.version + 1 })) w _ is))
after_set false node value w e is = absurd (cc)

left : (op : NodeOp) (found w : Option Node) → turned op found ≡ Ok w → option_map (λ (n : Node). n.value) w ≡ left_by op
left (Create path value) None w is = let e : Some (record { value = value; version = 0 }) ≡ w = cc in ap (λ (o : Option Node). option_map (λ (n : Node). n.value) o) (sym e)
left (Create path value) (Some node) w is = absurd (cc)
left (Set path value version) None w is = absurd (cc)
left (Set path value version) (Some node) w is = after_set (allows version node.version) node value w _ is
left (Delete path version) None w is = absurd (cc)
left (Delete path version) (Some node) w is = ap (λ (o : Option Node). option_map (λ (n : Node). n.value) o) (sym (if_ok (allows version node.version) None w _ is))

-- ---- many

pub written-multi : (ops : List NodeOp) (nodes after : Nodes) → multi_applied ops nodes ≡ Ok after → (q : List ℕ) → value_at after q ≡ written ops q (value_at nodes q)
unfolding written
written-multi [] nodes after is q = let e : nodes ≡ after = cc in ap (λ n. value_at n q) (sym e)
written-multi (op ∷ more) nodes after is q = at (turned op (map.get nodes (path_of op))) refl is (λ n made. written-multi more n after made q)
  where
    at : (r : Result (Option Node) NodeStop) → turned op (map.get nodes (path_of op)) ≡ r → and_then (and_then r (λ w. Ok (with_entry nodes (path_of op) w))) (λ n. multi_applied more n) ≡ Ok after
        → ((n : Nodes) → multi_applied more n ≡ Ok after → value_at after q ≡ written more q (value_at n q)) → value_at after q ≡ written more q (cond (eq_by_cmp path_cmp q (path_of op)) (left_by op) (value_at nodes q))
    at (Err stop) found made rest = absurd (cc)
    at (Ok w) found made rest =
        rest (with_entry nodes (path_of op) w) made
        ∙ ap (λ v. written more q v) (value-entry nodes (path_of op) w q ∙ ap (λ v. cond (eq_by_cmp path_cmp q (path_of op)) v (value_at nodes q)) (left op (map.get nodes (path_of op)) w found))

-- ---- at one path

pub same_test : (q : List ℕ) → eq_by_cmp path_cmp q q ≡ true
same_test q = (eq_by_cmp_equiv nat_list_cmp_total).refl q

pub other_test : (q k : List ℕ) → q ≢ k → eq_by_cmp path_cmp q k ≡ false
other_test q k other = at (eq_by_cmp path_cmp q k) refl
  where
    at : (b : Bool) → eq_by_cmp path_cmp q k ≡ b → eq_by_cmp path_cmp q k ≡ false
    at false is = is
    at true is = absurd (other (tells_apart exact_bytes q k is))

pub written-none : (q : List ℕ) (v : Option (List ℕ)) → written [] q v ≡ v
unfolding written
written-none q v = refl

pub written-same : (op : NodeOp) (more : List NodeOp) (q : List ℕ) (v : Option (List ℕ)) → path_of op ≡ q → written (op ∷ more) q v ≡ written more q (left_by op)
unfolding written
written-same op more q v is = ap (λ k. written more q (cond (eq_by_cmp path_cmp q k) (left_by op) v)) is ∙ ap (λ b. written more q (cond b (left_by op) v)) (same_test q)

pub written-other : (op : NodeOp) (more : List NodeOp) (q : List ℕ) (v : Option (List ℕ)) → q ≢ path_of op → written (op ∷ more) q v ≡ written more q v
unfolding written
written-other op more q v other = ap (λ b. written more q (cond b (left_by op) v)) (other_test q (path_of op) other)

-- by one change
pub written-own : (op : NodeOp) (q : List ℕ) (v : Option (List ℕ)) → path_of op ≡ q → written (op ∷ []) q v ≡ left_by op
written-own op q v is = written-same op [] q v is ∙ written-none q (left_by op)

pub written-past : (op : NodeOp) (q : List ℕ) (v : Option (List ℕ)) → q ≢ path_of op → written (op ∷ []) q v ≡ v
written-past op q v other = written-other op [] q v other ∙ written-none q v
