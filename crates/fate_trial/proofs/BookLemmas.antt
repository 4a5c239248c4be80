-- What changes of a transaction's own nodes make of books.
use Rattle.std.proofs.Common.{◌≡◌, ◌≢◌, inl, inr, ⊎_elim, ℕ, ◌^◌, ◌<◌, List, [], ◌∷◌, Option, None, Result, Err, IsTrue, sym, ◌∙◌, ap, subst}
use Rattle.std.proofs.lemmas.Result.{on_ok_weaker}
use Rattle.host_model.specs.Picture.{Picture}
use Rattle.host_model.specs.State.{HostState, picture_now}
use Rattle.host_model.specs.Calls.{IsSound}
use Rattle.host_model.specs.declared.fault.Stop.{Stop}
use Rattle.host_model.proofs.LeavesLemmas.{leaves_weaker}
use Rattle.node_store.specs.declared.changes.NodeOp.{NodeOp}
use Rattle.node_store.specs.Nodes.{Nodes}
use Rattle.fate_runner.specs.Book.{Book, SetsBook}
use Rattle.fate_runner.specs.Works.{Acts, Sets, MaySetBook}
use Rattle.fate_runner.proofs.Working.{not_begun}
use Rattle.fate_trial.specs.declared.layout.Slot.{Slot}
use Rattle.fate_trial.specs.declared.layout.Slot.TheVariants.{Status, Lower, Upper}
use Rattle.fate_trial.specs.Layout.{slot_path, slot_value, value_at, written}
use Rattle.fate_trial.specs.declared.site.Site.{Site}
use Rattle.fate_trial.specs.Site.{nodes_of, Makes, MayMake, GoesOn}
use Rattle.fate_trial.specs.Stored.{book_from, book_of, book_at, IsOutside, Alike, AreOfBook, slot_after, WritesBook}
use Rattle.fate_trial.proofs.Values.{written-none, written-other}
use Rattle.fate_trial.specs.SlotLemmas.{tids_apart, slot-small, slot-same}
use Rattle.fate_trial.proofs.SiteLemmas.{makes_none, site_nodes}

-- an action, said more weakly of faithful hosts
pub acts_under : {T : Type 0} {did : Result T Stop} {during after : Picture → Picture → Type 0} (wanted_during wanted : Picture → Picture → Type 0) {a b : HostState} → IsSound a → (IsTrue a.is_faithful → (q : Picture) → during (picture_now a) q → wanted_during (picture_now a) q)
    → (IsTrue a.is_faithful → (q : Picture) → after (picture_now a) q → wanted (picture_now a) q) → Acts did during after a b → Acts did wanted_during wanted a b
acts_under {did = did} wanted_during wanted {a = a} {b = b} sound early late acts = record {
  keeps = acts.keeps;
  tried = λ f. early f (picture_now b) (acts.tried f);
  done = λ f. on_ok_weaker did (late f (picture_now b)) (acts.done f);
  inside = λ h at_rest. leaves_weaker (acts.inside h at_rest) (early (sound.faithful h));
  rests = acts.rests;
}

outside : (t : ℕ) (ops : List NodeOp) → AreOfBook t ops → (path : List ℕ) → IsOutside path → (v : Option (List ℕ)) → written ops path v ≡ v
outside t [] own path out v = written-none path v
outside t (op ∷ more) own path out v = written-other op more path v (λ same. out own.0.0 t own.0.1 (same ∙ own.0.2)) ∙ outside t more own.1 path out v

other_tid : (t u : ℕ) → t < 2 ^ 64 → u < 2 ^ 64 → u ≢ t → (ops : List NodeOp) → AreOfBook t ops → (slot : Slot) (v : Option (List ℕ)) → written ops (slot_path slot u) v ≡ v
other_tid t u small_t small_u other [] own slot v = written-none (slot_path slot u) v
other_tid t u small_t small_u other (op ∷ more) own slot v =
    written-other op more (slot_path slot u) v (λ same. tids_apart slot own.0.0 u t small_u small_t other (same ∙ own.0.2)) ∙ other_tid t u small_t small_u other more own.1 slot v

module _ (t : ℕ) (small : t < 2 ^ 64) where
  slot_made : (ops : List NodeOp) (slot : Slot) (p q : Picture) → Makes ops p q → slot_value (nodes_of q) slot t ≡ slot_after ops (nodes_of p) slot t
  slot_made ops slot p q makes = slot-small (nodes_of q) slot t small ∙ makes.values (slot_path slot t) ∙ ap (λ v. written ops (slot_path slot t) v) (sym (slot-small (nodes_of p) slot t small))

  pub sets_book : (ops : List NodeOp) → AreOfBook t ops → (b : Book) (p q : Picture) → book_from (slot_after ops (nodes_of p) Status t) (slot_after ops (nodes_of p) Lower t) (slot_after ops (nodes_of p) Upper t) ≡ b → Makes ops p q → SetsBook book_at Alike t b p q
  unfolding book_of
  sets_book ops own b p q is makes = record {
    same = record { said = makes.said; others = makes.others; readable = makes.readable; outside = λ path out. makes.values path ∙ outside t ops own path out (value_at (nodes_of p) path) };
    is = (λ i. book_from (slot_made ops Status p q makes i) (slot_made ops Lower p q makes i) (slot_made ops Upper p q makes i)) ∙ is;
    others = λ u other. λ i. book_from (still u other Status i) (still u other Lower i) (still u other Upper i);
  }
    where
      still : (u : ℕ) → u ≢ t → (slot : Slot) → slot_value (nodes_of q) slot u ≡ slot_value (nodes_of p) slot u
      still u other slot = slot-same (nodes_of p) (nodes_of q) slot u (λ small_u. makes.values (slot_path slot u) ∙ other_tid t u small small_u other ops own slot (value_at (nodes_of p) (slot_path slot u)))

  pub stays_book : (p q : Picture) → Makes [] p q → SetsBook book_at Alike t (book_at p t) p q
  unfolding book_of
  stays_book p q makes = sets_book [] tt (book_at p t) p q (λ i. book_from (same Status i) (same Lower i) (same Upper i)) makes
    where
      same : (slot : Slot) → slot_after [] (nodes_of p) slot t ≡ slot_value (nodes_of p) slot t
      same slot = written-none (slot_path slot t) (slot_value (nodes_of p) slot t)

  -- changes of a book, as the action that they are
  pub sets_of : {T : Type 0} {did : Result T Stop} (ops : List NodeOp) (nodes : Nodes) (move : Book → Book) {a b : HostState} → IsSound a → (IsTrue a.is_faithful → nodes_of (picture_now a) ≡ nodes) → WritesBook t nodes ops (move (book_of nodes t))
      → Acts did (MayMake ops) (Makes ops) a b → Sets did book_at Alike t (move (book_at (picture_now a) t)) a b
  sets_of {did = did} ops nodes move {a = a} sound is writes acts =
      acts_under (MaySetBook book_at Alike t (move (book_at (picture_now a) t))) (SetsBook book_at Alike t (move (book_at (picture_now a) t))) sound
      (λ f q may. ⊎_elim (λ none. inl (stays_book (picture_now a) q none)) (λ made. inr (late f q made)) may) late acts
    where
      late : IsTrue a.is_faithful → (q : Picture) → Makes ops (picture_now a) q → SetsBook book_at Alike t (move (book_at (picture_now a) t)) (picture_now a) q
      late f q made =
          sets_book ops writes.own (move (book_at (picture_now a) t)) (picture_now a) q
          (ap (λ n. book_from (slot_after ops n Status t) (slot_after ops n Lower t) (slot_after ops n Upper t)) (is f) ∙ writes.is ∙ ap (λ n. move (book_of n t)) (sym (is f))) made

  -- nothing was changed
  pub not_set : {T : Type 0} (stop : Stop) (b : Book) {a : HostState} → IsSound a → Sets {T = T} (Err stop) book_at Alike t b a a
  not_set stop b {a = a} sound = not_begun (MaySetBook book_at Alike t b) (SetsBook book_at Alike t b) sound (inl (stays_book (picture_now a) (picture_now a) (makes_none (picture_now a))))

  -- a change of a site's nodes
  pub site_sets : {H : Type 0} (state : H → HostState) (sound : (h : H) → IsSound (state h)) (move : Book → Book) (site : Site H) (after : H) {T : Type 0} {did : Result T Stop} (ops given : List NodeOp) → given ≡ ops → GoesOn state site → site.stopped ≡ None
      → WritesBook t site.nodes.nodes ops (move (book_of site.nodes.nodes t)) → Acts did (MayMake given) (Makes given) (state site.host) (state after) → Sets did book_at Alike t (move (book_at (picture_now (state site.host)) t)) (state site.host) (state after)
  site_sets state sound move site after {did = did} ops given is goes runs writes acts =
      sets_of ops site.nodes.nodes move (sound site.host) (site_nodes state site goes runs) writes (subst (λ l. Acts did (MayMake l) (Makes l) (state site.host) (state after)) is acts)
