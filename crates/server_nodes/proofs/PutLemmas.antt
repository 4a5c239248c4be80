-- Nodes that are put: made, or set where they are there.
use Rattle.std.proofs.Common.{◌≡◌, ◌≢◌, ◌⊎◌, inl, inr, ℕ, ◌+◌, ◌^◌, Bool, true, false, cond, List, Option, Some, None, Result, Ok, Err, refl, ◌∙◌, ap}
use Rattle.std.specs.Prelude.{nat_lt}
use Rattle.std.specs.FinMap as map
use Rattle.std.specs.FinMap.{get-insert, slice_cmp-IsAntisymmetric, nat_cmp-IsAntisymmetric}
use Rattle.std.specs.Ordering.{eq_by_cmp, is_eq}
use Rattle.std.specs.declared.cmp.Ordering.{Ordering}
use Rattle.std.specs.declared.cmp.Ordering.TheVariants.{Less, Equal, Greater}
use Rattle.std.specs.Cmp.Lexicographic.{nat_list_cmp_total}
use Rattle.std.proofs.lemmas.Cmp.{eq_by_cmp_equiv}
use Rattle.host_model.specs.declared.fault.Stop.TheVariants.{Full}
use Rattle.node_store.specs.declared.changes.Node.{Node}
use Rattle.node_store.specs.declared.changes.NodeOp.TheVariants.{Create, Set}
use Rattle.node_store.specs.declared.changes.NodeStop.{NodeStop}
use Rattle.node_store.specs.declared.changes.NodeStop.TheVariants.{Stop}
use Rattle.node_store.specs.Nodes.{Nodes, turned, and_then, applied}
use Rattle.node_store.specs.PathsTo.{path_cmp, with_entry}
use Rattle.server_nodes.specs.Starting.{put_op}
use Rattle.server_nodes.specs.Started.{HasValue}

-- the changes are made and leave such nodes, or a version has reached its end
abbrev pub MadeOrFull : Result Nodes NodeStop → (Nodes → Type 0) → Type 0
MadeOrFull result leaves = ((after : Nodes) × (result ≡ Ok after) × leaves after) ⊎ (result ≡ Err (Stop Full))

pub made_then : (result : Result Nodes NodeStop) (next : Nodes → Result Nodes NodeStop) {P Q : Nodes → Type 0} → MadeOrFull result P → ((middle : Nodes) → P middle → MadeOrFull (next middle) Q) → MadeOrFull (and_then result next) Q
made_then result next (inl made) go = rw (made.1) (go made.0 made.2)
made_then result next (inr full) go = inr (ap (λ r. and_then r next) full)

-- the path has this value, and every other path what it had
pub record GivesValue (path value : List ℕ) (before after : Nodes) : Type 0 where
  pub has : HasValue after path value
  pub others : (other : List ℕ) → other ≢ path → map.get after other ≡ map.get before other

pub is_equal : (o : Ordering) → is_eq o ≡ true → o ≡ Equal
is_equal Less is = cc
is_equal Equal is = refl
is_equal Greater is = cc

pub not_same : (path other : List ℕ) → other ≢ path → eq_by_cmp path_cmp other path ≡ false
not_same path other apart = by (eq_by_cmp path_cmp other path) refl
  where
    by : (b : Bool) → eq_by_cmp path_cmp other path ≡ b → eq_by_cmp path_cmp other path ≡ false
    by true is = absurd (apart (slice_cmp-IsAntisymmetric nat_cmp-IsAntisymmetric other path (is_equal (path_cmp other path) is)))
    by false is = is

gives_inserted : (nodes : Nodes) (path value : List ℕ) (node : Node) → node.value ≡ value → GivesValue path value nodes (map.insert nodes path node)
gives_inserted nodes path value node is = record {
  has = record {
    node = node;
    there = get-insert nat_list_cmp_total nodes path node path ∙ ap (λ b. cond b (Some node) (map.get nodes path)) ((eq_by_cmp_equiv nat_list_cmp_total).refl path);
    is = is;
  };
  others = λ other apart. get-insert nat_list_cmp_total nodes path node other ∙ ap (λ b. cond b (Some node) (map.get nodes other)) (not_same path other apart);
}

abbrev first_node : List ℕ → Node
first_node value = record { value = value; version = 0 }

abbrev next_node : Node → List ℕ → Node
next_node node value = record { value = value; version = node.version + 1 }

-- a node that isn't there is made
create_made : (now : Nodes) (path value : List ℕ) → map.get now path ≡ None → MadeOrFull (applied (Create path value) now) (GivesValue path value now)
create_made now path value none = inl (
  map.insert now path (first_node value),
  ap (λ o. and_then (turned (Create path value) o) (λ after. Ok (with_entry now path after))) none,
  gives_inserted now path value (first_node value) refl,
)

-- one that is there is set
pub set_made : (now : Nodes) (path value : List ℕ) (node : Node) → map.get now path ≡ Some node → MadeOrFull (applied (Set path value None) now) (GivesValue path value now)
set_made now path value node there = by (nat_lt (node.version + 1) (2 ^ 63)) refl
  where
    is : (b : Bool) → nat_lt (node.version + 1) (2 ^ 63) ≡ b → applied (Set path value None) now ≡ and_then (cond b (Ok (Some (next_node node value))) (Err (Stop Full))) (λ after. Ok (with_entry now path after))
    is b test = ap (λ o. and_then (turned (Set path value None) o) (λ after. Ok (with_entry now path after))) there
        ∙ ap (λ t. and_then (cond t (Ok (Some (next_node node value))) (Err (Stop Full))) (λ after. Ok (with_entry now path after))) test

    by : (b : Bool) → nat_lt (node.version + 1) (2 ^ 63) ≡ b → MadeOrFull (applied (Set path value None) now) (GivesValue path value now)
    by true test = inl (map.insert now path (next_node node value), is true test, gives_inserted now path value (next_node node value) refl)
    by false test = inr (is false test)

-- so either way the path has the value, where nothing had changed there
pub put_made : (nodes now : Nodes) (path value : List ℕ) → map.get now path ≡ map.get nodes path → MadeOrFull (applied (put_op nodes path value) now) (GivesValue path value now)
put_made nodes now path value same = by (map.get nodes path) refl
  where
    by : (found : Option Node) → map.get nodes path ≡ found → MadeOrFull (applied (put_op nodes path value) now) (GivesValue path value now)
    by None none = rw none (create_made now path value (same ∙ none))
    by (Some node) there = rw there (set_made now path value node (same ∙ there))
