-- The changes that set a status.
use Rattle.std.proofs.Common.{◌≡◌, ◌≢◌, ℕ, ◌^◌, ◌<◌, List, [], ◌∷◌, ◌++◌, get_or, Option, Some, None, is_some, cond, refl, sym, ◌∙◌, ap, subst, arith}
use Rattle.node_store.specs.declared.changes.NodeOp.{NodeOp}
use Rattle.node_store.specs.declared.changes.NodeOp.TheVariants.{Set, Delete}
use Rattle.node_store.specs.Nodes.{Nodes}
use Rattle.fate_runner.specs.declared.text.StepWords.{StepWords}
use Rattle.fate_runner.specs.declared.forms.TxStatus.{TxStatus}
use Rattle.fate_runner.specs.declared.forms.TxStatus.TheVariants.{Submitted, InProgress, FailedInProgress, Failed, Successful}
use Rattle.fate_runner.specs.declared.forms.Cause.{Cause}
use Rattle.fate_runner.specs.declared.forms.Cause.TheVariants.{NoTable, Exists, Asked}
use Rattle.fate_runner.specs.Book.{Book, with_status, cause_after, stack_after}
use Rattle.fate_trial.specs.declared.layout.Slot.{Slot}
use Rattle.fate_trial.specs.declared.layout.Slot.TheVariants.{Status, Lower, Upper}
use Rattle.fate_trial.specs.Layout.{slot_path, slot_value, value_at, written}
use Rattle.fate_trial.specs.Stored.{status_letter, letter_status, letter_cause, letter_after, status_in, cause_in, kind_in, status_value, words_in, book_from, book_of, AreOfBook, WritesBook, status_ops, StatusChanges}
use Rattle.fate_trial.proofs.Values.{written-none, written-same, written-other, written-own, written-past}
use Rattle.fate_trial.specs.SlotLemmas.{slots_apart, slot-small}
use Rattle.fate_trial.proofs.ReadyLemmas.{IsReady, AreReady, applies_ready}

-- ---- letters

letter_back : (status : TxStatus) → letter_status (status_letter status) ≡ Some status
letter_back Submitted = refl
letter_back InProgress = refl
letter_back FailedInProgress = refl
letter_back Failed = refl
letter_back Successful = refl

cause_back : (cause : Option Cause) (old : ℕ) → letter_cause (letter_after cause old) ≡ cause_after cause (letter_cause old)
cause_back None old = refl
cause_back (Some NoTable) old = refl
cause_back (Some Exists) old = refl
cause_back (Some Asked) old = refl

-- ---- changes

module _ (nodes : Nodes) (t : ℕ) (small : t < 2 ^ 64) (cause : Option Cause) (old : List ℕ) (there : value_at nodes (slot_path Status t) ≡ Some old) where
  abbrev set : TxStatus → NodeOp
  set status = Set (slot_path Status t) (status_value status cause old) None

  abbrev out : Slot → NodeOp
  out slot = Delete (slot_path slot t) None

  status_back : Some old ≡ slot_value nodes Status t
  status_back = sym (slot-small nodes Status t small ∙ there)

  set_ready : (status : TxStatus) → IsReady (set status) (value_at nodes (slot_path Status t))
  set_ready status = subst (λ v. IsReady (set status) v) (sym there) tt

  -- the status node's value
  new_status : (status : TxStatus) (more : List NodeOp) → ((v : Option (List ℕ)) → written more (slot_path Status t) v ≡ v) → written (set status ∷ more) (slot_path Status t) (slot_value nodes Status t) ≡ Some (status_value status cause old)
  new_status status more same = written-same (set status) more (slot_path Status t) (slot_value nodes Status t) refl ∙ same (Some (status_value status cause old))

  -- the book that it says, over these steps
  said : (status : TxStatus) (stack : List StepWords) → stack ≡ stack_after status (book_of nodes t).stack
      → (let b : Book = record { status = status_in (Some (status_value status cause old)); cause = cause_in (Some (status_value status cause old)); kind = kind_in (Some (status_value status cause old)); stack = stack } in b) ≡ with_status status cause (book_of nodes t)
  unfolding book_of
  said status stack is = λ i. record {
    status = letter_back status i;
    cause = (cause_back cause (get_or old 1 45) ∙ ap (λ v. cause_after cause (cause_in v)) status_back) i;
    kind = ap (λ v. kind_in v) status_back i;
    stack = is i;
  }

  -- where the steps stay
  stays : (status : TxStatus) → stack_after status (book_of nodes t).stack ≡ (book_of nodes t).stack → WritesBook t nodes (set status ∷ []) (with_status status cause (book_of nodes t))
  unfolding book_of
  stays status same = record {
    own = ((Status, tt, refl), tt);
    applies = applies_ready (set status ∷ []) nodes (set_ready status, λ after is. tt);
    is = (λ i. book_from (new_status status [] (λ v. written-none (slot_path Status t) v) i)
        (written-past (set status) (slot_path Lower t) (slot_value nodes Lower t) (slots_apart Lower Status t t (λ e. omega (arith, e))) i)
        (written-past (set status) (slot_path Upper t) (slot_value nodes Upper t) (slots_apart Upper Status t t (λ e. omega (arith, e))) i))
        ∙ said status (words_in (slot_value nodes Upper t) ++ words_in (slot_value nodes Lower t)) (sym same);
  }

  -- where they go
  goes : (more : List NodeOp) → AreOfBook t more → AreReady (set Successful ∷ more) (λ q. value_at nodes q) → ((v : Option (List ℕ)) → written more (slot_path Status t) v ≡ v)
      → written (set Successful ∷ more) (slot_path Lower t) (slot_value nodes Lower t) ≡ None → written (set Successful ∷ more) (slot_path Upper t) (slot_value nodes Upper t) ≡ None
      → WritesBook t nodes (set Successful ∷ more) (with_status Successful cause (book_of nodes t))
  goes more own ready same lower upper = record {
    own = ((Status, tt, refl), own);
    applies = applies_ready (set Successful ∷ more) nodes ready;
    is = (λ i. book_from (new_status Successful more same i) (lower i) (upper i)) ∙ said Successful [] refl;
  }

  -- behind the new status
  behind : (more : List NodeOp) (slot : Slot) → slot_path slot t ≢ slot_path Status t → (v : Option (List ℕ)) → written (set Successful ∷ more) (slot_path slot t) v ≡ written more (slot_path slot t) v
  behind more slot other v = written-other (set Successful) more (slot_path slot t) v other

  -- the value in a slot that no change so far has touched
  still : (slot : Slot) {v : Option (List ℕ)} (after : List ℕ → Option (List ℕ)) → slot_path slot t ≢ slot_path Status t → value_at nodes (slot_path slot t) ≡ v → ((q : List ℕ) → after q ≡ written (set Successful ∷ []) q (value_at nodes q)) → after (slot_path slot t) ≡ v
  still slot after other is made = made (slot_path slot t) ∙ written-past (set Successful) (slot_path slot t) (value_at nodes (slot_path slot t)) other ∙ is

  lower_apart : slot_path Lower t ≢ slot_path Status t
  lower_apart = slots_apart Lower Status t t (λ e. omega (arith, e))

  upper_apart : slot_path Upper t ≢ slot_path Status t
  upper_apart = slots_apart Upper Status t t (λ e. omega (arith, e))

  lower_upper : slot_path Lower t ≢ slot_path Upper t
  lower_upper = slots_apart Lower Upper t t (λ e. omega (arith, e))

  upper_lower : slot_path Upper t ≢ slot_path Lower t
  upper_lower = slots_apart Upper Lower t t (λ e. omega (arith, e))

  status_upper : slot_path Status t ≢ slot_path Upper t
  status_upper = slots_apart Status Upper t t (λ e. omega (arith, e))

  status_lower : slot_path Status t ≢ slot_path Lower t
  status_lower = slots_apart Status Lower t t (λ e. omega (arith, e))

  out_ready : (slot : Slot) (v : List ℕ) {found : Option (List ℕ)} → found ≡ Some v → IsReady (out slot) found
  out_ready slot v is = subst (λ x. IsReady (out slot) x) (sym is) tt

  ends : (upper lower : Option (List ℕ)) → value_at nodes (slot_path Upper t) ≡ upper → value_at nodes (slot_path Lower t) ≡ lower → WritesBook t nodes (status_ops t Successful cause old upper lower) (with_status Successful cause (book_of nodes t))
  ends None None no_upper no_lower =
      goes [] tt (set_ready Successful, λ after is. tt) (λ v. written-none (slot_path Status t) v)
      (behind [] Lower lower_apart (slot_value nodes Lower t) ∙ written-none (slot_path Lower t) (slot_value nodes Lower t) ∙ slot-small nodes Lower t small ∙ no_lower)
      (behind [] Upper upper_apart (slot_value nodes Upper t) ∙ written-none (slot_path Upper t) (slot_value nodes Upper t) ∙ slot-small nodes Upper t small ∙ no_upper)
  ends (Some v) None has_upper no_lower =
      goes (out Upper ∷ []) ((Upper, tt, refl), tt) (set_ready Successful, λ one made. (out_ready Upper v (still Upper one upper_apart has_upper made), λ two is. tt)) (λ x. written-past (out Upper) (slot_path Status t) x status_upper)
      (behind (out Upper ∷ []) Lower lower_apart (slot_value nodes Lower t) ∙ written-past (out Upper) (slot_path Lower t) (slot_value nodes Lower t) lower_upper ∙ slot-small nodes Lower t small ∙ no_lower)
      (behind (out Upper ∷ []) Upper upper_apart (slot_value nodes Upper t) ∙ written-own (out Upper) (slot_path Upper t) (slot_value nodes Upper t) refl)
  ends None (Some w) no_upper has_lower =
      goes (out Lower ∷ []) ((Lower, tt, refl), tt) (set_ready Successful, λ one made. (out_ready Lower w (still Lower one lower_apart has_lower made), λ two is. tt)) (λ x. written-past (out Lower) (slot_path Status t) x status_lower)
      (behind (out Lower ∷ []) Lower lower_apart (slot_value nodes Lower t) ∙ written-own (out Lower) (slot_path Lower t) (slot_value nodes Lower t) refl)
      (behind (out Lower ∷ []) Upper upper_apart (slot_value nodes Upper t) ∙ written-past (out Lower) (slot_path Upper t) (slot_value nodes Upper t) upper_lower ∙ slot-small nodes Upper t small ∙ no_upper)
  ends (Some v) (Some w) has_upper has_lower =
      goes (out Upper ∷ out Lower ∷ []) ((Upper, tt, refl), ((Lower, tt, refl), tt))
      (set_ready Successful, λ one made. (out_ready Upper v (still Upper one upper_apart has_upper made), λ two after. (out_ready Lower w (after (slot_path Lower t) ∙ written-past (out Upper) (slot_path Lower t) (one (slot_path Lower t)) lower_upper ∙ still Lower one lower_apart has_lower made), λ three is. tt)))
      (λ x. written-other (out Upper) (out Lower ∷ []) (slot_path Status t) x status_upper ∙ written-past (out Lower) (slot_path Status t) x status_lower)
      (behind (out Upper ∷ out Lower ∷ []) Lower lower_apart (slot_value nodes Lower t) ∙ written-other (out Upper) (out Lower ∷ []) (slot_path Lower t) (slot_value nodes Lower t) lower_upper ∙ written-own (out Lower) (slot_path Lower t) (slot_value nodes Lower t) refl)
      (behind (out Upper ∷ out Lower ∷ []) Upper upper_apart (slot_value nodes Upper t) ∙ written-same (out Upper) (out Lower ∷ []) (slot_path Upper t) (slot_value nodes Upper t) refl ∙ written-past (out Lower) (slot_path Upper t) None upper_lower)

  pub status_written : (status : TxStatus) (upper lower : Option (List ℕ)) → value_at nodes (slot_path Upper t) ≡ upper → value_at nodes (slot_path Lower t) ≡ lower → WritesBook t nodes (status_ops t status cause old upper lower) (with_status status cause (book_of nodes t))
  status_written Submitted upper lower has_upper has_lower = stays Submitted refl
  status_written InProgress upper lower has_upper has_lower = stays InProgress refl
  status_written FailedInProgress upper lower has_upper has_lower = stays FailedInProgress refl
  status_written Failed upper lower has_upper has_lower = stays Failed refl
  status_written Successful upper lower has_upper has_lower = ends upper lower has_upper has_lower

pub status_writes : (nodes : Nodes) (t : ℕ) → t < 2 ^ 64 → (status : TxStatus) (cause : Option Cause) (ops : List NodeOp) → StatusChanges nodes t status cause ops → WritesBook t nodes ops (with_status status cause (book_of nodes t))
status_writes nodes t small status cause ops changes =
    subst (λ l. WritesBook t nodes l (with_status status cause (book_of nodes t))) (sym changes.is)
    (status_written nodes t small cause changes.old changes.there status (value_at nodes (slot_path Upper t)) (value_at nodes (slot_path Lower t)) refl refl)

-- where there are changes, there is the transaction
pub has_status : (nodes : Nodes) (t : ℕ) (status : TxStatus) (cause : Option Cause) (ops : List NodeOp) → StatusChanges nodes t status cause ops → value_at nodes (slot_path Status t) ≡ None → ⊥
has_status nodes t status cause ops changes none = omega (arith, ap {B = ℕ} (λ (v : Option (List ℕ)). cond (is_some v) 1 0) (sym none ∙ changes.there))
