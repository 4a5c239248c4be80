-- A multi that applies is one that is read again, without the versions that it asked for.
use Rattle.std.proofs.Common.{◌≡◌, ℕ, ◌<◌, ◌^◌, Bool, true, false, List, [], ◌∷◌, ◌++◌, map, All, Option, Some, None, Result, Ok, Err, cond, refl, sym, ◌∙◌, ap, subst}
use Rattle.std.specs.Int.{w32}
use Rattle.std.specs.FinMap as finite
use Rattle.std.specs.List.{flat_map}
use Rattle.std.proofs.lemmas.List.{length-map}
use Rattle.std.proofs.lemmas.List.Elements.{All-nil, All-cons, All-head, All-tail}
use Rattle.bytes_form.specs.Fields.{number_field}
use Rattle.node_store.specs.declared.changes.Node.{Node}
use Rattle.node_store.specs.declared.changes.NodeOp.{NodeOp}
use Rattle.node_store.specs.declared.changes.NodeOp.TheVariants.{Create, Set, Delete}
use Rattle.node_store.specs.declared.changes.NodeStop.{NodeStop}
use Rattle.node_store.specs.PathsTo.{with_entry}
use Rattle.node_store.specs.Nodes.{Nodes, allows, turned, path_of, and_then, multi_applied}
use Rattle.node_store.specs.Multi.{spelled_change, unasked, Fits, IsWritten}
use Rattle.node_store.specs.Reading.{Spells}
use Rattle.node_store.specs.Image.{Turns}

spelled-unasked : (op : NodeOp) → spelled_change (unasked op) ≡ spelled_change op
spelled-unasked (Create path value) = refl
spelled-unasked (Set path value version) = refl
spelled-unasked (Delete path version) = refl

written : (op : NodeOp) → Fits op → IsWritten (unasked op)
written (Create path value) fits = record { fits = fits; plain = refl }
written (Set path value version) fits = record { fits = fits; plain = refl }
written (Delete path version) fits = record { fits = fits; plain = refl }

flat_map-unasked : (ops : List NodeOp) → flat_map spelled_change (map unasked ops) ≡ flat_map spelled_change ops
flat_map-unasked [] = refl
flat_map-unasked (op ∷ ops) = λ i. spelled-unasked op i ++ flat_map-unasked ops i

all_written : (ops : List NodeOp) → All Fits ops → All IsWritten (map unasked ops)
all_written [] all = All-nil IsWritten
all_written (op ∷ ops) all = All-cons IsWritten (unasked op) (map unasked ops) (written op (All-head Fits op ops all)) (all_written ops (All-tail Fits op ops all))

path-unasked : (op : NodeOp) → path_of (unasked op) ≡ path_of op
path-unasked (Create path value) = refl
path-unasked (Set path value version) = refl
path-unasked (Delete path version) = refl

allowed : {A : Type 0} (b : Bool) (made : Result A NodeStop) (stop : NodeStop) (x : A) → cond b made (Err stop) ≡ Ok x → made ≡ Ok x
allowed true made stop x is = is
allowed false made stop x is = cc is

turned-unasked : (op : NodeOp) (found : Option Node) (after : Option Node) → turned op found ≡ Ok after → turned (unasked op) found ≡ Ok after
turned-unasked (Create path value) found after is = is
turned-unasked (Set path value version) None after is = is
turned-unasked (Set path value version) (Some node) after is = allowed (allows version node.version) _ _ after is
turned-unasked (Delete path version) None after is = is
turned-unasked (Delete path version) (Some node) after is = allowed (allows version node.version) _ _ after is

multi_applied-unasked : (ops : List NodeOp) (m after : Nodes) → multi_applied ops m ≡ Ok after → multi_applied (map unasked ops) m ≡ Ok after
multi_applied-unasked [] m after is = is
multi_applied-unasked (op ∷ more) m after is =
    elim (turned op (finite.get m (path_of op))) as (λ r. turned op (finite.get m (path_of op)) ≡ r → and_then (and_then r (λ o. Ok (with_entry m (path_of op) o))) (λ n. multi_applied more n) ≡ Ok after → multi_applied (map unasked (op ∷ more)) m ≡ Ok after) [
      | Ok o ↦ λ made rest.
          let so : turned (unasked op) (finite.get m (path_of (unasked op))) ≡ Ok o = ap (λ p. turned (unasked op) (finite.get m p)) (path-unasked op) ∙ turned-unasked op (finite.get m (path_of op)) o made in
          ap (λ r. and_then (and_then r (λ x. Ok (with_entry m (path_of (unasked op)) x))) (λ n. multi_applied (map unasked more) n)) so
          ∙ ap (λ p. multi_applied (map unasked more) (with_entry m p o)) (path-unasked op)
          ∙ multi_applied-unasked more (with_entry m (path_of op) o) after rest
      | Err stop ↦ λ made rest. cc rest
    ] refl is

-- the payload of a multi that applies makes its nodes
pub turns_of : (payload : List ℕ) (ops : List NodeOp) (m after : Nodes) → Spells payload ops → multi_applied ops m ≡ Ok after → Turns payload m after
turns_of payload ops m after spells applies = record {
  ops = map unasked ops;
  multi = record {
    is = spells.is ∙ sym (λ i. number_field w32 (length-map ops unasked i) ++ flat_map-unasked ops i);
    count = subst (λ n. n < 2 ^ 32) (sym (length-map ops unasked)) spells.count;
    each = all_written ops spells.each;
  };
  applies = multi_applied-unasked ops m after applies;
}
