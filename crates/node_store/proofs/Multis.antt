-- How the changes of a multi apply one after another.
use Rattle.std.proofs.Common.{◌≡◌, ℕ, ◌+◌, ◌<◌, List, ◌∷◌, drop, length, get_or, Option, Ok, sym, ◌∙◌, ap, add-one, drop-cons}
use Rattle.std.specs.FinMap as map
use Rattle.node_store.specs.declared.changes.Node.{Node}
use Rattle.node_store.specs.declared.changes.NodeOp.{NodeOp}
use Rattle.node_store.specs.PathsTo.{with_entry, overlaid, PathsTo}
use Rattle.node_store.specs.Nodes.{Nodes, turned, path_of, and_then, applied, multi_applied}
use Rattle.node_store.proofs.PathMaps.{overlaid-insert}

-- the change at a place, and those behind it
multi-drop : (ops : List NodeOp) (i : ℕ) (op : NodeOp) (m : Nodes) → i < length ops → op ≡ get_or ops i op → multi_applied (drop i ops) m ≡ and_then (applied op m) (λ after. multi_applied (drop (i + 1) ops) after)
multi-drop ops i op m within is =
    let split : drop i ops ≡ op ∷ drop (i + 1) ops = rw (drop-cons ops i op, ← is, add-one) in
    ap (λ l. multi_applied l m) split

-- a change that is made
pub staged_more : (ops : List NodeOp) (i : ℕ) (op : NodeOp) (nodes : Nodes) (staged : PathsTo (Option Node)) → i < length ops → op ≡ get_or ops i op
    → (after : Option Node) → Ok after ≡ turned op (map.get (overlaid nodes staged) (path_of op)) → multi_applied ops nodes ≡ multi_applied (drop i ops) (overlaid nodes staged)
    → multi_applied ops nodes ≡ multi_applied (drop (i + 1) ops) (overlaid nodes (map.insert staged (path_of op) after))
staged_more ops i op nodes staged within is after made so =
    so ∙ multi-drop ops i op (overlaid nodes staged) within is
    ∙ ap (λ r. and_then (and_then r (λ o. Ok (with_entry (overlaid nodes staged) (path_of op) o))) (λ m. multi_applied (drop (i + 1) ops) m)) (sym made)
    ∙ ap (λ m. multi_applied (drop (i + 1) ops) m) (sym (overlaid-insert nodes staged (path_of op) after))
