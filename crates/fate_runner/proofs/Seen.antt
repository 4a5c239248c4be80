-- What stacks do, as steps see it.
use Rattle.std.proofs.Common.{◌≡◌, ◌⊎◌, inl, inr, ⊎_elim, ℕ, List, [], ◌∷◌, Option, Some, None, IsSome, Result, Ok, Err, IsTrue, OnOk, sym, ◌∙◌, ap, subst, arith, rules}
use Rattle.host_model.specs.Picture.{Picture}
use Rattle.host_model.specs.State.{HostState, picture_now}
use Rattle.host_model.specs.Calls.{NoneFalls}
use Rattle.host_model.specs.Leaves.{LeavesOnly, AllSettled}
use Rattle.host_model.specs.declared.fault.Stop.{Stop}
use Rattle.fate_runner.specs.declared.text.StepWords.{StepWords}
use Rattle.fate_runner.specs.Book.{Book, Meaning, SetsBook}
use Rattle.fate_runner.specs.Works.{Acts, Sets, MaySetBook, IsTop, IsTopOf}
use Rattle.fate_runner.specs.Agree.{Agree, Agrees}
use Rattle.fate_runner.specs.declared.forms.TxStatus.{TxStatus}

pub now_agrees : {a b : HostState} → Agree a b → picture_now a ≡ picture_now b
now_agrees {a = a} {b = b} agree = ap (λ i. let p : Picture = record { image = i; said = a.said } in p) agree.files ∙ ap (λ s. let p : Picture = record { image = b.files; said = s } in p) agree.said

-- crashes, as steps see them
pub only_seen : {P Q : Picture → Type 0} {ka kb sa sb : HostState} → Agree ka sa → Agree kb sb → ((p : Picture) → P p → Q p) → LeavesOnly P ka kb → LeavesOnly Q sa sb
only_seen {P = P} {Q = Q} {ka = ka} {kb = kb} {sa = sa} {sb = sb} first last weaker only = record {
  later = omega (arith, only.later, first.moment, last.moment);
  each = λ p left. weaker p (only.each p (subst (λ n. kb.left_since n p) (sym first.moment) (last.left_since sa.moment p left)));
  before = λ t p le left. from_first t p (only.before t p (omega (arith, le, first.moment)) (last.left_since t p left));
}
  where
    from_first : (t : ℕ) (p : Picture) → ka.left_since t p ⊎ P p → sa.left_since t p ⊎ Q p
    from_first t p found = ⊎_elim (λ old. inl (first.left_since_back t p old)) (λ here. inr (weaker p here)) found

-- at rest, as both see it
pub rest_seen : {k s : HostState} → Agree k s → AllSettled s → AllSettled k
rest_seen {k = k} {s = s} agree at_rest = record { each = λ p left. at_rest.each p (agree.may_leave_back p left) ∙ sym agree.files }

pub rest_shown : {k s : HostState} → Agree k s → AllSettled k → AllSettled s
rest_shown {k = k} {s = s} agree at_rest = record { each = λ p left. at_rest.each p (agree.may_leave p left) ∙ agree.files }

on_ok : {T : Type 0} (result : Result T Stop) {P Q : Type 0} → (P → Q) → OnOk result P → OnOk result Q
on_ok (Ok u) f p = f p
on_ok (Err e) f p = tt

-- an action of stacks, as steps see it
pub acts_seen : {T : Type 0} {result : Result T Stop} {during after : Picture → Picture → Type 0} (wanted_during wanted : Picture → Picture → Type 0) {ka kb sa sb : HostState} → Agree ka sa → Agree kb sb
    → ((q : Picture) → during (picture_now ka) q → wanted_during (picture_now sa) q) → ((q : Picture) → after (picture_now ka) q → wanted (picture_now sa) q)
    → Acts result during after ka kb → Acts result wanted_during wanted sa sb
acts_seen {result = result} wanted_during wanted {ka = ka} {kb = kb} {sa = sa} {sb = sb} first last early late acts = record {
  keeps = record {
    faithful = sym last.faithful ∙ acts.keeps.faithful ∙ first.faithful;
    honest = sym last.honest ∙ acts.keeps.honest ∙ first.honest;
    counts = subst (λ f. NoneFalls f sb.faults) first.faults (subst (λ f. NoneFalls ka.faults f) last.faults acts.keeps.counts);
  };
  tried = λ f. subst (λ q. wanted_during (picture_now sa) q) (now_agrees last) (early (picture_now kb) (acts.tried (subst (λ b. IsTrue b) (sym first.faithful) f)));
  done = λ f. on_ok result (λ does. subst (λ q. wanted (picture_now sa) q) (now_agrees last) (late (picture_now kb) does)) (acts.done (subst (λ b. IsTrue b) (sym first.faithful) f));
  inside = λ h at_rest. only_seen first last early (acts.inside (subst (λ b. IsTrue b) (sym first.honest) h) (rest_seen first at_rest));
  rests = λ h at_rest. on_ok result (rest_shown last) (acts.rests (subst (λ b. IsTrue b) (sym first.honest) h) (rest_seen first at_rest));
}

module _ {E S : Type 0} {state : E → HostState} {book : Picture → ℕ → Book} {alike : Picture → Picture → Type 0} {spelled : S → StepWords} {suits : S → List ℕ → Type 0}
    {step_state : E → HostState} {m : Meaning} {step_spelled : S → StepWords} {step_suits : S → List ℕ → Type 0} {text : S → StepWords} {text_suits : S → List ℕ → Type 0}
    (agree : Agrees state book alike spelled suits step_state m step_spelled step_suits text text_suits) where
  -- the book of a transaction, as both see it
  pub book_seen : (t : ℕ) (e : E) → book (picture_now (state e)) t ≡ m.book (picture_now (step_state e)) t
  book_seen t e = agree.books (picture_now (state e)) t ∙ ap (λ p. m.book p t) (now_agrees (agree.states e))

  -- a book that is set
  set_seen : (t : ℕ) (e : E) (b wanted : Book) (q : Picture) → b ≡ wanted → SetsBook book alike t b (picture_now (state e)) q → SetsBook m.book m.alike t wanted (picture_now (step_state e)) q
  set_seen t e b wanted q is sets = subst (λ p. SetsBook m.book m.alike t wanted p q) (now_agrees (agree.states e)) (record {
    same = agree.likes (picture_now (state e)) q sets.same;
    is = sym (agree.books q t) ∙ sets.is ∙ is;
    others = λ u other. sym (agree.books q u) ∙ sets.others u other ∙ agree.books (picture_now (state e)) u;
  })

  pub sets_seen : (t : ℕ) (old new first : E) (move wanted : Book → Book) {T : Type 0} {result : Result T Stop} → old ≡ first → ((b : Book) → move b ≡ wanted b)
      → Sets result book alike t (move (book (picture_now (state old)) t)) (state old) (state new)
      → Sets result m.book m.alike t (wanted (m.book (picture_now (step_state first)) t)) (step_state first) (step_state new)
  sets_seen t old new first move wanted {result = result} is same acts = subst (λ e. Sets result m.book m.alike t (wanted (m.book (picture_now (step_state e)) t)) (step_state e) (step_state new)) is
      (acts_seen (MaySetBook m.book m.alike t here) (SetsBook m.book m.alike t here) (agree.states old) (agree.states new)
      (λ q found. ⊎_elim (λ stays. inl (set_seen t old (book (picture_now (state old)) t) (m.book (picture_now (step_state old)) t) q (book_seen t old) stays)) (λ sets. inr (late q sets)) found) late acts)
    where
      here : Book
      here = wanted (m.book (picture_now (step_state old)) t)

      late : (q : Picture) → SetsBook book alike t (move (book (picture_now (state old)) t)) (picture_now (state old)) q → SetsBook m.book m.alike t here (picture_now (step_state old)) q
      late q sets = set_seen t old (move (book (picture_now (state old)) t)) here q (same (book (picture_now (state old)) t) ∙ ap wanted (book_seen t old)) sets

  -- what `status` answers
  pub status_seen : (t : ℕ) (e : E) {found : Option TxStatus} (s : TxStatus) → (IsTrue (state e).is_faithful → found ≡ (book (picture_now (state e)) t).status) → found ≡ Some s → IsTrue (step_state e).is_faithful → (m.book (picture_now (step_state e)) t).status ≡ Some s
  status_seen t e s answers is f = ap (λ (b : Book). b.status) (sym (book_seen t e)) ∙ sym (answers (subst (λ b. IsTrue b) (sym (agree.states e).faithful) f)) ∙ is

  -- what `top` answers
  pub top_seen : (t : ℕ) (e : E) {found : Option S} (s : S) (status : TxStatus) → (IsTrue (state e).is_faithful → IsTopOf spelled suits (book (picture_now (state e)) t) found) → found ≡ Some s
      → (IsTrue (step_state e).is_faithful → (m.book (picture_now (step_state e)) t).status ≡ Some status) → IsTrue (step_state e).is_faithful → IsTop (step_spelled s) (step_suits s) status (m.book (picture_now (step_state e)) t)
  top_seen t e {found = found} s status answers is status_is f =
      let top = subst (λ o. IsTopOf spelled suits (book (picture_now (state e)) t) o) is (answers (subst (λ b. IsTrue b) (sym (agree.states e).faithful) f)) in
      record {
        status_is = status_is f;
        kind = subst (λ (b : Book). step_suits s b.kind) (book_seen t e) ((agree.same_suits s (book (picture_now (state e)) t).kind).0 top.0);
        below = top.1.0;
        stack_is = ap (λ (b : Book). b.stack) (sym (book_seen t e)) ∙ top.1.1 ∙ ap (λ w. w ∷ top.1.0) (agree.same_words s);
      }

  pub empty_seen : (t : ℕ) (e : E) {found : Option S} → (IsTrue (state e).is_faithful → IsTopOf spelled suits (book (picture_now (state e)) t) found) → found ≡ None → IsTrue (step_state e).is_faithful → (m.book (picture_now (step_state e)) t).stack ≡ []
  empty_seen t e answers is f = ap (λ (b : Book). b.stack) (sym (book_seen t e)) ∙ subst (λ o. IsTopOf spelled suits (book (picture_now (state e)) t) o) is (answers (subst (λ b. IsTrue b) (sym (agree.states e).faithful) f))

  -- the transaction is still stored
  pub still_there : (t : ℕ) (e : E) (status : TxStatus) → (IsTrue (step_state e).is_faithful → (m.book (picture_now (step_state e)) t).status ≡ Some status) → IsTrue (state e).is_faithful → IsSome (book (picture_now (state e)) t).status
  still_there t e status is f =
      let here = ap (λ (b : Book). b.status) (book_seen t e) ∙ is (subst (λ b. IsTrue b) (agree.states e).faithful f) in
      subst (λ (o : Option TxStatus). IsSome o) (sym here) (search rules)
