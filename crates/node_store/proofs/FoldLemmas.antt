-- Records as multis, and the nodes that they make.
use Rattle.std.proofs.Common.{◌≡◌, ℕ, ◌+◌, ◌<◌, List, [], ◌∷◌, ◌++◌, length, drop, get_or, All, Ok, Err, refl, sym, ◌∙◌, ap, subst, arith, add-one, drop-cons}
use Rattle.std.specs.Int.{w32}
use Rattle.std.specs.FinMap as map
use Rattle.std.specs.List.{flat_map}
use Rattle.std.proofs.lemmas.List.Elements.{All-head, All-tail}
use Rattle.bytes_form.proofs.FieldsLemmas.{IsPrefixFree-number}
use Rattle.node_store.specs.declared.changes.NodeOp.{NodeOp}
use Rattle.node_store.specs.declared.changes.NodeStop.{NodeStop}
use Rattle.node_store.specs.Nodes.{Nodes, multi_applied}
use Rattle.node_store.specs.Multi.{spelled_change, IsWritten, IsMulti}
use Rattle.node_store.specs.Reading.{TurnsNone}
use Rattle.node_store.specs.Image.{Turns, FoldTo}
use Rattle.node_store.proofs.ReadingLemmas.{one_change}

-- ---- a payload is one multi at the most

same_changes : (a b : List NodeOp) → All IsWritten a → All IsWritten b → length a ≡ length b → flat_map spelled_change a ≡ flat_map spelled_change b → a ≡ b
same_changes [] [] left right size same = refl
same_changes [] (op ∷ more) left right size same = absurd (omega (arith, size))
same_changes (op ∷ more) [] left right size same = absurd (omega (arith, size))
same_changes (x ∷ xs) (y ∷ ys) left right size same =
    let first = one_change (flat_map spelled_change (x ∷ xs)) x y (flat_map spelled_change xs) (flat_map spelled_change ys) (record { is = refl; written = All-head IsWritten x xs left }) (record { is = same; written = All-head IsWritten y ys right }) in
    let rest = same_changes xs ys (All-tail IsWritten x xs left) (All-tail IsWritten y ys right) (omega (arith, size)) first.1 in
    λ i. first.0 i ∷ rest i

pub one_multi : (payload : List ℕ) (a b : List NodeOp) → IsMulti payload a → IsMulti payload b → a ≡ b
one_multi payload a b one two =
    let same = IsPrefixFree-number w32 (length a) (length b) (flat_map spelled_change a) (flat_map spelled_change b) one.count two.count (sym one.is ∙ two.is) in
    same_changes a b one.each two.each same.0 same.1

pub turns_one : (payload : List ℕ) (m a b : Nodes) → Turns payload m a → Turns payload m b → a ≡ b
turns_one payload m a b one two =
    let first : multi_applied two.ops m ≡ Ok a = sym (ap (λ ops. multi_applied ops m) (one_multi payload one.ops two.ops one.multi two.multi)) ∙ one.applies in
    let second : multi_applied two.ops m ≡ Ok b = two.applies in
    cc (first, second)

pub turns_none : (payload : List ℕ) (ops : List NodeOp) (m : Nodes) (stop : NodeStop) → IsMulti payload ops → multi_applied ops m ≡ Err stop → TurnsNone payload m
turns_none payload ops m stop multi refused = record {
  none = λ after turns.
      let made : multi_applied ops m ≡ Ok after = sym (ap (λ os. multi_applied os m) (one_multi payload turns.ops ops turns.multi multi)) ∙ turns.applies in
      cc (made, refused);
}

-- ---- the fold

pub fold_one : (records : List (List ℕ)) (m a b : Nodes) → FoldTo records m a → FoldTo records m b → a ≡ b
fold_one [] m a b one two = one ∙ sym two
fold_one (payload ∷ more) m a b one two =
    let same = turns_one payload m one.0 two.0 one.1 two.1 in
    fold_one more two.0 a b (subst (λ n. FoldTo more n a) same one.2) two.2

-- one record more
pub fold_push : (records : List (List ℕ)) (payload : List ℕ) (m a b : Nodes) → FoldTo records m a → Turns payload a b → FoldTo (records ++ payload ∷ []) m b
fold_push [] payload m a b folds turns = (b, subst (λ n. Turns payload n b) folds turns, refl)
fold_push (first ∷ more) payload m a b folds turns = (folds.0, folds.1, fold_push more payload folds.0 a b folds.2 turns)

-- what the first records made, and what the others make of it
pub record FoldsFrom (records : List (List ℕ)) (i : ℕ) (nodes : Nodes) : Type 0 where
  pub forth : (after : Nodes) → FoldTo records map.empty after → FoldTo (drop i records) nodes after
  pub back : (after : Nodes) → FoldTo (drop i records) nodes after → FoldTo records map.empty after

at_front : (records : List (List ℕ)) (i : ℕ) (payload : List ℕ) → i < length records → payload ≡ get_or records i payload → drop i records ≡ payload ∷ drop (i + 1) records
at_front records i payload within is = rw (drop-cons records i payload, ← is, add-one)

pub folds_more : (records : List (List ℕ)) (i : ℕ) (payload : List ℕ) (nodes after : Nodes) → i < length records → payload ≡ get_or records i payload → FoldsFrom records i nodes → Turns payload nodes after → FoldsFrom records (i + 1) after
folds_more records i payload nodes after within is so turns =
    let front = at_front records i payload within is in
    record {
      forth = λ end folds.
          let all = subst (λ l. FoldTo l nodes end) front (so.forth end folds) in
          subst (λ n. FoldTo (drop (i + 1) records) n end) (turns_one payload nodes all.0 after all.1 turns) all.2;
      back = λ end folds. so.back end (subst (λ l. FoldTo l nodes end) (sym front) (after, turns, folds));
    }
