-- The parts of a turn over stacks and steps that agree.
use Rattle.std.proofs.Common.{◌≡◌, ℕ, List, [], Option, Some, None, Result, Ok, Err, IsTrue, IsErr, refl, sym, ◌∙◌, ap, subst}
use Rattle.host_model.specs.Picture.{Picture}
use Rattle.host_model.specs.State.{HostState, picture_now}
use Rattle.host_model.specs.Calls.{Keeps, Looks, IsSound}
use Rattle.host_model.specs.declared.fault.Stop.{Stop}
use Rattle.host_model.proofs.CallsLemmas.{was_faithful, still_faithful, looks-refl}
use Rattle.fate_runner.specs.declared.text.StepWords.{StepWords}
use Rattle.fate_runner.specs.Book.{Book, Meaning, IsKept, IsLawful, with_status}
use Rattle.fate_runner.specs.Works.{Works, Sets, IsTop, IsTopOf, IfStops, UnlessStops, ready_of}
use Rattle.fate_runner.specs.Agree.{Agrees}
use Rattle.fate_runner.specs.Turn.{IsTurn, Starts, Gives_up, Takes}
use Rattle.fate_runner.specs.declared.forms.TxStatus.{TxStatus}
use Rattle.fate_runner.specs.declared.forms.Cause.{Cause}
use Rattle.fate_runner.specs.declared.forms.Going.{Going}
use Rattle.fate_runner.specs.declared.forms.Next.{Next}
use Rattle.fate_runner.specs.declared.forms.Reason.{Reason}
use Rattle.fate_runner.specs.declared.forms.StepStop.{StepStop}
use Rattle.fate_runner.specs.declared.forms.StepStop.TheVariants as stops
use Rattle.fate_runner.specs.declared.forms.Ready.{Ready}
use Rattle.fate_runner.specs.declared.forms.Ready.TheVariants.{Now, Defer}
use Rattle.fate_runner.specs.declared.forms.TxStatus.TheVariants.{Submitted, InProgress, FailedInProgress, Failed}
use Rattle.fate_runner.specs.declared.forms.Turned.{Turned}
use Rattle.fate_runner.specs.declared.forms.Turned.TheVariants.{Undone, Moved}
use Rattle.fate_runner.proofs.Seen.{sets_seen, top_seen, empty_seen}
use Rattle.fate_runner.proofs.Turning.{now_same, works_when, works_stop, works_start, waits, acted, act_stops}

-- the reason that is told
abbrev pub reason_of : Ready → Option Reason
reason_of Now = None
reason_of (Defer reason) = Some reason

told : (o : Option Reason) → reason_of (ready_of o) ≡ o
told None = refl
told (Some reason) = refl

pub reason_is : (o : Option Reason) (r : Ready) → r ≡ ready_of o → o ≡ reason_of r
reason_is o r is = sym (told o) ∙ ap reason_of (sym is)

-- what a call that fails did, and why one stops
pub failed_did : {S : Type 0} (spelled : S → StepWords) (e : StepStop) (cause : Cause) {P : Type 0} → e ≡ stops.Failed cause → UnlessStops {S = S} (Err e) P → P
failed_did {S} spelled e cause {P} is did = subst (λ n. UnlessStops {S = S} (Err n) P) is did

pub stop_is : {S : Type 0} (spelled : S → StepWords) (e : StepStop) (stop : Stop) (P : Stop → Type 0) → e ≡ stops.Stop stop → IfStops {S = S} (Err e) P → P stop
stop_is {S} spelled e stop P is did = subst (λ n. IfStops {S = S} (Err n) P) is did

module _ {E S : Type 0} {kstate : E → HostState} {book : Picture → ℕ → Book} {alike : Picture → Picture → Type 0} {kspelled : S → StepWords} {ksuits : S → List ℕ → Type 0}
    {state : E → HostState} {m : Meaning} {spelled : S → StepWords} {suits : S → List ℕ → Type 0} {text : S → StepWords} {text_suits : S → List ℕ → Type 0} (agree : Agrees kstate book alike kspelled ksuits state m spelled suits text text_suits)
    (lawful : IsLawful m) (sound : (e : E) → IsSound (state e)) (first_reason : S → ℕ → Going → E → Option Reason) (answer : S → ℕ → E → Result (Next S) Cause) (t : ℕ) where
  abbrev pub Rule : E → Turned → Book → Type 0
  Rule e = IsTurn spelled suits first_reason answer t e (m.book (picture_now (state e)) t)

  -- the turn began before `top`
  pub from_start : {e first new : E} {result : Result Turned Stop} → e ≡ first → Takes m t (Rule e) result (state e) (state new) → Takes m t (Rule first) result (state first) (state new)
  from_start {new = new} {result = result} is takes = subst (λ e. Takes m t (Rule e) result (state e) (state new)) is takes

  -- the top step, where it was asked
  module _ (s : S) (going : Going) (status : TxStatus) {first e e2 : E} {found : Option S} (is : e ≡ first) (answers : IsTrue (kstate first).is_faithful → IsTopOf kspelled ksuits (book (picture_now (kstate first)) t) found) (found_is : found ≡ Some s)
      (status_is : IsTrue (state first).is_faithful → (m.book (picture_now (state first)) t).status ≡ Some status)
      (looks : Looks (state e) (state e2)) {ready : Ready} (asked : IsTrue (state e).is_faithful → IsKept m (picture_now (state e)) → ready ≡ ready_of (first_reason s t going e)) (r : Ready) (ready_is : ready ≡ r) where
    pub top_at : IsTrue (state e).is_faithful → IsTop (spelled s) (suits s) status (m.book (picture_now (state e)) t)
    top_at = subst (λ v. IsTrue (state v).is_faithful → IsTop (spelled s) (suits s) status (m.book (picture_now (state v)) t)) (sym is) (top_seen agree t first s status answers found_is status_is)

    pub top_here : IsTrue (state e2).is_faithful → IsTop (spelled s) (suits s) status (m.book (picture_now (state e2)) t)
    top_here f =
        let f1 = was_faithful looks.quiet.keeps f in
        subst (λ p. IsTop (spelled s) (suits s) status (m.book p t)) (sym (now_same looks f1)) (top_at f1)

    pub kept_here : IsTrue (state e).is_faithful → IsKept m (picture_now (state e)) → IsKept m (picture_now (state e2))
    kept_here f kept = subst (λ p. IsKept m p) (sym (now_same looks f)) kept

    pub reason_at : IsTrue (state e).is_faithful → IsKept m (picture_now (state e)) → first_reason s t going e ≡ reason_of r
    reason_at f kept = reason_is (first_reason s t going e) r (sym ready_is ∙ asked f kept)

    -- what the call answers, at the start
    pub answer_at : {found : Result (Next S) Cause} → answer s t e2 ≡ answer s t e → (IsTop (spelled s) (suits s) status (m.book (picture_now (state e2)) t) → IsTrue (state e2).is_faithful → IsKept m (picture_now (state e2)) → answer s t e2 ≡ found)
        → IsTrue (state e).is_faithful → IsKept m (picture_now (state e)) → answer s t e ≡ found
    answer_at same tells f kept =
        let f2 = still_faithful looks.quiet.keeps f in
        sym same ∙ tells (top_here f2) f2 (kept_here f kept)

    pub waits_here : (turned : Turned) → (IsTrue (state e).is_faithful → IsKept m (picture_now (state e)) → Rule e turned (m.book (picture_now (state e)) t)) → Takes m t (Rule first) (Ok turned) (state first) (state e2)
    waits_here turned rule = from_start is (waits m lawful t (Rule e) turned (sound e) looks rule)

    module _ {e3 : E} {next : Option Book} (keeps : Keeps (state e2) (state e3)) (works : IsTop (spelled s) (suits s) status (m.book (picture_now (state e2)) t) → Works m t next (state e2) (state e3)) where
      pub stops_here : {result : Result Turned Stop} → IsErr result → Takes m t (Rule first) result (state first) (state e3)
      stops_here {result = result} is_err = from_start is (works_stop m lawful t (Rule e) result is_err (sound e) looks (works_when m lawful t (sound e2) keeps (λ f. works (top_here f))))

      module _ (move wanted : Book → Book) (same : (b : Book) → move b ≡ wanted b) (next_is : next ≡ Some (wanted (m.book (picture_now (state e2)) t))) {T : Type 0} {did : Result T Stop} {e4 : E}
          (sets : Sets did book alike t (move (book (picture_now (kstate e3)) t)) (kstate e3) (kstate e4))
          (turned : Turned) (rule : IsTrue (state e).is_faithful → IsKept m (picture_now (state e)) → Rule e turned (wanted (m.book (picture_now (state e)) t))) where
        set : Sets did m.book m.alike t (wanted (m.book (picture_now (state e3)) t)) (state e3) (state e4)
        set = sets_seen agree t e3 e4 e3 move wanted refl same sets

        worked : Works m t (Some (wanted (m.book (picture_now (state e2)) t))) (state e2) (state e3)
        worked = works_when m lawful t (sound e2) keeps (λ f. subst (λ n. Works m t n (state e2) (state e3)) next_is (works (top_here f)))

        pub fails_here : {result : Result Turned Stop} → IsErr result → Takes m t (Rule first) result (state first) (state e4)
        fails_here {result = result} is_err = from_start is (act_stops m lawful t (Rule e) wanted turned (sound e) (sound e2) looks worked set rule result is_err)

        pub turns_here : {u : T} → did ≡ Ok u → Takes m t (Rule first) (Ok turned) (state first) (state e4)
        turns_here done = from_start is (acted m lawful t (Rule e) wanted turned (sound e) (sound e2) looks worked set rule done)

  -- a status is set, and no step is asked
  module _ (status : TxStatus) (turned : Turned) {first e e2 : E} (is : e ≡ first) {T : Type 0} {did : Result T Stop} (sets : Sets did book alike t (with_status status None (book (picture_now (kstate e)) t)) (kstate e) (kstate e2))
      (fits : IsTrue (state first).is_faithful → IsKept m (picture_now (state first)) → m.fits (picture_now (state first)) t (with_status status None (m.book (picture_now (state first)) t)))
      (rule : IsTrue (state first).is_faithful → Rule first turned (with_status status None (m.book (picture_now (state first)) t))) where
    set_first : Sets did m.book m.alike t (with_status status None (m.book (picture_now (state first)) t)) (state first) (state e2)
    set_first = sets_seen agree t e e2 first (with_status status None) (with_status status None) is (λ b. refl) sets

    no_work_yet : Works m t (Some (with_status status None (m.book (picture_now (state first)) t))) (state first) (state first)
    no_work_yet = works_start m lawful t (with_status status None) (sound first) fits

    pub not_set : {result : Result Turned Stop} → IsErr result → Takes m t (Rule first) result (state first) (state e2)
    not_set {result = result} is_err = act_stops m lawful t (Rule first) (with_status status None) turned (sound first) (sound first) (looks-refl (state first)) no_work_yet set_first (λ f kept. rule f) result is_err

    pub is_set : {u : T} → did ≡ Ok u → Takes m t (Rule first) (Ok turned) (state first) (state e2)
    is_set done = acted m lawful t (Rule first) (with_status status None) turned (sound first) (sound first) (looks-refl (state first)) no_work_yet set_first (λ f kept. rule f) done

  -- nothing is left to undo
  module _ {first e e2 : E} {found : Option S} (is : e ≡ first) (answers : IsTrue (kstate first).is_faithful → IsTopOf kspelled ksuits (book (picture_now (kstate first)) t) found) (found_is : found ≡ None)
      (status_is : IsTrue (state first).is_faithful → (m.book (picture_now (state first)) t).status ≡ Some FailedInProgress) {T : Type 0} {did : Result T Stop}
      (sets : Sets did book alike t (with_status Failed None (book (picture_now (kstate e)) t)) (kstate e) (kstate e2)) where
    empty : IsTrue (state first).is_faithful → (m.book (picture_now (state first)) t).stack ≡ []
    empty = empty_seen agree t first answers found_is

    given : IsTrue (state first).is_faithful → IsKept m (picture_now (state first)) → m.fits (picture_now (state first)) t (with_status Failed None (m.book (picture_now (state first)) t))
    given f kept = lawful.gives_up t (picture_now (state first)) (m.book (picture_now (state first)) t) (status_is f) (empty f) (kept.fits t)

    pub not_given_up : {result : Result Turned Stop} → IsErr result → Takes m t (Rule first) result (state first) (state e2)
    not_given_up is_err = not_set Failed Undone is sets given (λ f. Gives_up (status_is f) (empty f) refl refl) is_err

    pub given_up : {u : T} → did ≡ Ok u → Takes m t (Rule first) (Ok Undone) (state first) (state e2)
    given_up done = is_set Failed Undone is sets given (λ f. Gives_up (status_is f) (empty f) refl refl) done

  -- the transaction begins
  module _ {first e2 : E} (status_is : IsTrue (state first).is_faithful → (m.book (picture_now (state first)) t).status ≡ Some Submitted) {T : Type 0} {did : Result T Stop}
      (sets : Sets did book alike t (with_status InProgress None (book (picture_now (kstate first)) t)) (kstate first) (kstate e2)) where
    begun : IsTrue (state first).is_faithful → IsKept m (picture_now (state first)) → m.fits (picture_now (state first)) t (with_status InProgress None (m.book (picture_now (state first)) t))
    begun f kept = lawful.starts t (picture_now (state first)) (m.book (picture_now (state first)) t) (status_is f) (kept.fits t)

    pub not_started : {result : Result Turned Stop} → IsErr result → Takes m t (Rule first) result (state first) (state e2)
    not_started is_err = not_set InProgress Moved refl sets begun (λ f. Starts (status_is f) refl refl) is_err

    pub is_started : {u : T} → did ≡ Ok u → Takes m t (Rule first) (Ok Moved) (state first) (state e2)
    is_started done = is_set InProgress Moved refl sets begun (λ f. Starts (status_is f) refl refl) done
