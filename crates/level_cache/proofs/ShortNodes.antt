-- No node that a store has on its disk has a long value.
use Rattle.std.proofs.Common.{◌≡◌, ℕ, ◌+◌, ◌^◌, ◌<◌, nat_lt, Bool, true, false, cond, length, List, [], ◌∷◌, Option, Some, None, Result, Ok, Err, refl, sym, ◌∙◌, subst}
use Rattle.std.specs.FinMap as map
use Rattle.std.specs.FinMap.{get-empty}
use Rattle.std.specs.Ordering.{eq_by_cmp}
use Rattle.std.specs.List.{All}
use Rattle.std.specs.Option.{IfSome}
use Rattle.std.proofs.lemmas.List.Elements.{All-head, All-tail}
use Rattle.std.proofs.lemmas.Option.{none-some, same_Some}
use Rattle.host_model.specs.Picture.{Image}
use Rattle.host_model.specs.declared.fault.Stop.TheVariants.{Full}
use Rattle.node_store.specs.declared.changes.Node.{Node}
use Rattle.node_store.specs.declared.changes.NodeOp.{NodeOp}
use Rattle.node_store.specs.declared.changes.NodeOp.TheVariants.{Create, Set, Delete}
use Rattle.node_store.specs.declared.changes.NodeStop.{NodeStop}
use Rattle.node_store.specs.declared.changes.NodeStop.TheVariants.{Version, Stop}
use Rattle.node_store.specs.Nodes.{Nodes, allows, raised, turned, path_of, and_then, applied, multi_applied}
use Rattle.node_store.specs.PathsTo.{path_cmp, with_entry}
use Rattle.node_store.specs.Multi.{Fits, IsWritten}
use Rattle.node_store.specs.Image.{FoldTo, HasNodes}
use Rattle.node_store.proofs.PathMaps.{get-with_entry}

abbrev IsShort : Node → Type 0
IsShort node = length node.value < 2 ^ 32

-- each node has a value of fewer than 2^32 bytes
pub record AreShort (nodes : Nodes) : Type 0 where
  pub each : (path : List ℕ) (node : Node) → map.get nodes path ≡ Some node → IsShort node

ok_one : {T : Type 0} (a b : T) → ◌≡◌ {A = Result T NodeStop} (Ok a) (Ok b) → a ≡ b
ok_one a b e = cc

never : {T : Type 0} (stop : NodeStop) (b : T) → ◌≡◌ {A = Result T NodeStop} (Err stop) (Ok b) → ⊥
never stop b e = cc

raised_short : (value : List ℕ) (node : Node) (w : Option Node) → length value < 2 ^ 32 → raised node value ≡ Ok w → IfSome w IsShort
raised_short value node w short = by (nat_lt (node.version + 1) (2 ^ 63))
  where
    after : Node
    after = record { value = value; version = node.version + 1 }

    by : (b : Bool) → ◌≡◌ {A = Result (Option Node) NodeStop} (cond b (Ok (Some after)) (Err (Stop Full))) (Ok w) → IfSome w IsShort
    by true e = subst (λ o. IfSome o IsShort) (ok_one (Some after) w e) short
    by false e = absurd (never (Stop Full) w e)

turned_short : (op : NodeOp) (found w : Option Node) → Fits op → turned op found ≡ Ok w → IfSome w IsShort
turned_short (Create path value) None w fits e = subst (λ o. IfSome o IsShort) (ok_one (Some (record { value = value; version = 0 })) w e) fits.1
turned_short (Create path value) (Some node) w fits e = absurd (never _ w e)
turned_short (Set path value version) None w fits e = absurd (never _ w e)
turned_short (Set path value version) (Some node) w fits e = by (allows version node.version) e
  where
    by : (b : Bool) → ◌≡◌ {A = Result (Option Node) NodeStop} (cond b (raised node value) (Err (Version node.version))) (Ok w) → IfSome w IsShort
    by true e = raised_short value node w fits.1 e
    by false e = absurd (never (Version node.version) w e)
turned_short (Delete path version) None w fits e = absurd (never _ w e)
turned_short (Delete path version) (Some node) w fits e = by (allows version node.version) e
  where
    by : (b : Bool) → ◌≡◌ {A = Result (Option Node) NodeStop} (cond b (Ok None) (Err (Version node.version))) (Ok w) → IfSome w IsShort
    by true e = subst (λ o. IfSome o IsShort) (ok_one None w e) tt
    by false e = absurd (never (Version node.version) w e)

entry_short : (nodes : Nodes) (path : List ℕ) (w : Option Node) → AreShort nodes → IfSome w IsShort → AreShort (with_entry nodes path w)
entry_short nodes path w are short = record { each = λ other node at. by other node (eq_by_cmp path_cmp other path) (sym (get-with_entry nodes path w other) ∙ at) }
  where
    own : (o : Option Node) (node : Node) → o ≡ Some node → IfSome o IsShort → IsShort node
    own None node e short = absurd (none-some node e)
    own (Some x) node e short = subst IsShort (same_Some x node e) short

    by : (other : List ℕ) (node : Node) (b : Bool) → cond b w (map.get nodes other) ≡ Some node → IsShort node
    by other node true at = own w node at short
    by other node false at = are.each other node at

applied_short : (op : NodeOp) (nodes after : Nodes) → Fits op → AreShort nodes → applied op nodes ≡ Ok after → AreShort after
applied_short op nodes after fits are e = by (turned op (map.get nodes (path_of op))) refl e
  where
    by : (r : Result (Option Node) NodeStop) → turned op (map.get nodes (path_of op)) ≡ r → and_then r (λ w. Ok (with_entry nodes (path_of op) w)) ≡ Ok after → AreShort after
    by (Ok w) is e = subst AreShort (ok_one (with_entry nodes (path_of op) w) after e) (entry_short nodes (path_of op) w are (turned_short op (map.get nodes (path_of op)) w fits is))
    by (Err stop) is e = absurd (never stop after e)

multi_short : (ops : List NodeOp) (nodes after : Nodes) → All IsWritten ops → AreShort nodes → multi_applied ops nodes ≡ Ok after → AreShort after
multi_short [] nodes after each are e = subst AreShort (ok_one nodes after e) are
multi_short (op ∷ more) nodes after each are e = by (applied op nodes) refl e (λ next. multi_short more next after (All-tail IsWritten op more each))
  where
    by : (r : Result Nodes NodeStop) → applied op nodes ≡ r → and_then r (multi_applied more) ≡ Ok after → ((next : Nodes) → AreShort next → multi_applied more next ≡ Ok after → AreShort after) → AreShort after
    by (Ok next) is e rest = rest next (applied_short op nodes next (All-head IsWritten op more each).fits are is) e
    by (Err stop) is e rest = absurd (never stop after e)

fold_short : (records : List (List ℕ)) (before after : Nodes) → AreShort before → FoldTo records before after → AreShort after
fold_short [] before after are folds = subst AreShort (sym folds) are
fold_short (payload ∷ more) before after are (next, turns, folds) = fold_short more next after (multi_short turns.ops before next turns.multi.each are turns.applies) folds

none_long : AreShort map.empty
none_long = record { each = λ path node at. absurd (none-some node (sym (get-empty path_cmp path) ∙ at)) }

pub nodes_short : (name : List ℕ) (image : Image) (nodes : Nodes) → HasNodes name image nodes → AreShort nodes
nodes_short name image nodes has = fold_short has.records map.empty nodes none_long has.folds
