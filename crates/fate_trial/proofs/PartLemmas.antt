-- What is made of a tower's part.
use Rattle.std.proofs.Common.{◌≡◌, inl, inr, ⊎_elim, ℕ, ◌^◌, ◌<◌, Bool, true, false, List, [], ◌∷◌, Option, Some, None, is_some, Result, Ok, Err, IsTrue, refl, sym, ◌∙◌, ap, subst}
use Rattle.host_model.specs.Picture.{Picture}
use Rattle.host_model.specs.State.{HostState, picture_now}
use Rattle.host_model.specs.Calls.{IsSound}
use Rattle.host_model.specs.declared.fault.Stop.{Stop}
use Rattle.host_model.proofs.CallsLemmas.{keeps-refl, looks-refl}
use Rattle.node_store.specs.declared.changes.NodeOp.{NodeOp}
use Rattle.node_store.specs.declared.changes.NodeOp.TheVariants.{Create, Delete}
use Rattle.node_store.specs.Nodes.{Nodes, path_of}
use Rattle.fate_runner.specs.Works.{Acts}
use Rattle.fate_runner.proofs.Turning.{only_looks}
use Rattle.fate_runner.proofs.Working.{acts_weaker, not_begun}
use Rattle.fate_trial.specs.declared.layout.Slot.{Slot}
use Rattle.fate_trial.specs.Layout.{slot_path, value_at, has, left_by, Applies}
use Rattle.fate_trial.specs.Site.{nodes_of, Makes, MayMake}
use Rattle.fate_trial.specs.Towers.{Sets, MaySet}
use Rattle.fate_trial.proofs.ReadyLemmas.{IsReady, applies_ready}
use Rattle.fate_trial.proofs.StackLemmas.{gone, there}
use Rattle.fate_trial.proofs.Values.{written-none, written-own, written-past}
use Rattle.fate_trial.specs.SlotLemmas.{slot-small, slot-same}

-- an action that does nothing, and needn't
acts_still : {T : Type 0} {u : T} (during after : Picture → Picture → Type 0) {a : HostState} → IsSound a → during (picture_now a) (picture_now a) → (IsTrue a.is_faithful → after (picture_now a) (picture_now a)) → Acts {T = T} (Ok u) during after a a
acts_still during after {a = a} sound same is = record {
  keeps = keeps-refl a;
  tried = λ f. same;
  done = λ f. is f;
  inside = λ h at_rest. only_looks (during (picture_now a)) sound (looks-refl a) h at_rest same;
  rests = λ h at_rest. at_rest;
}

module _ (part : Slot) (t : ℕ) where
  sets_none : (p q : Picture) → Makes [] p q → Sets part t (has (nodes_of p) part t) p q
  sets_none p q makes = record {
    readable = makes.readable;
    elsewhere = λ path other. makes.values path ∙ written-none path (value_at (nodes_of p) path);
    is = ap (λ v. is_some v) (slot-same (nodes_of p) (nodes_of q) part t (λ small. makes.values (slot_path part t) ∙ written-none (slot_path part t) (value_at (nodes_of p) (slot_path part t))));
  }

  sets_one : t < 2 ^ 64 → (op : NodeOp) (there : Bool) → path_of op ≡ slot_path part t → is_some (left_by op) ≡ there → (p q : Picture) → Makes (op ∷ []) p q → Sets part t there p q
  sets_one small op there path_is left p q makes = record {
    readable = makes.readable;
    elsewhere = λ path other. makes.values path ∙ written-past op path (value_at (nodes_of p) path) (λ same. other (same ∙ path_is));
    is = ap (λ v. is_some v) (slot-small (nodes_of q) part t small ∙ makes.values (slot_path part t) ∙ written-own op (slot_path part t) (value_at (nodes_of p) (slot_path part t)) path_is) ∙ left;
  }

  pub sets_same : (p : Picture) → Sets part t (has (nodes_of p) part t) p p
  sets_same p = record { readable = λ is. is; elsewhere = λ path other. refl; is = refl }

  -- one change of its node
  pub part_acts : t < 2 ^ 64 → (op : NodeOp) (there : Bool) (ops : List NodeOp) {T : Type 0} {did : Result T Stop} {a b : HostState} → ops ≡ op ∷ [] → path_of op ≡ slot_path part t → is_some (left_by op) ≡ there
      → Acts did (MayMake ops) (Makes ops) a b → Acts did (MaySet part t there) (Sets part t there) a b
  part_acts small op there ops {did = did} {a = a} {b = b} is path_is left acts =
      acts_weaker (MaySet part t there) (Sets part t there)
      (λ q may. ⊎_elim (λ none. inl (sets_none (picture_now a) q none)) (λ made. inr (sets_one small op there path_is left (picture_now a) q made)) may)
      (λ q made. sets_one small op there path_is left (picture_now a) q made)
      (subst (λ l. Acts did (MayMake l) (Makes l) a b) is acts)

  -- none is needed
  pub part_still : (there : Bool) {T : Type 0} {u : T} {a : HostState} → IsSound a → (IsTrue a.is_faithful → has (nodes_of (picture_now a)) part t ≡ there) → Acts {T = T} (Ok u) (MaySet part t there) (Sets part t there) a a
  part_still there {a = a} sound is =
      acts_still (MaySet part t there) (Sets part t there) sound (inl (sets_same (picture_now a))) (λ f. subst (λ b. Sets part t b (picture_now a) (picture_now a)) (is f) (sets_same (picture_now a)))

  -- or it wasn't begun
  pub part_not_begun : (there : Bool) {T : Type 0} (stop : Stop) {a : HostState} → IsSound a → Acts {T = T} (Err stop) (MaySet part t there) (Sets part t there) a a
  part_not_begun there stop {a = a} sound = not_begun (MaySet part t there) (Sets part t there) sound (inl (sets_same (picture_now a)))

-- ---- when the changes apply

pub create_applies : (nodes : Nodes) (part : Slot) (t : ℕ) → t < 2 ^ 64 → (value : List ℕ) → has nodes part t ≡ false → Applies (Create (slot_path part t) value ∷ []) nodes
create_applies nodes part t small value free = applies_ready (Create (slot_path part t) value ∷ []) nodes (subst (λ v. IsReady (Create (slot_path part t) value) v) (sym (gone nodes t small part free)) tt, λ after is. tt)

pub delete_applies : (nodes : Nodes) (part : Slot) (t : ℕ) → t < 2 ^ 64 → has nodes part t ≡ true → Applies (Delete (slot_path part t) None ∷ []) nodes
delete_applies nodes part t small is = applies_ready (Delete (slot_path part t) None ∷ []) nodes (subst (λ v. IsReady (Delete (slot_path part t) None) v) (sym (there nodes t small part is).1) tt, λ after done. tt)

pub none_of : (v : Option (List ℕ)) → is_some v ≡ false → v ≡ None
none_of None e = refl
none_of (Some v) e = absurd (cc)

pub free_applies : (nodes : Nodes) (path value : List ℕ) → is_some (value_at nodes path) ≡ false → Applies (Create path value ∷ []) nodes
free_applies nodes path value free = applies_ready (Create path value ∷ []) nodes (subst (λ v. IsReady (Create path value) v) (sym (none_of (value_at nodes path) free)) tt, λ after is. tt)
