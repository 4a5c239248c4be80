-- What a turn is.
use Rattle.std.specs.Prelude.{◌≡◌, ◌⊎◌, ◌≢◌, ℕ, List, [], Option, Some, None, Result, Ok, Err, IsTrue, IfOk, OnOk}
use Rattle.host_model.specs.Picture.{Picture}
use Rattle.host_model.specs.State.{HostState, picture_now}
use Rattle.host_model.specs.Calls.{Keeps}
use Rattle.host_model.specs.Leaves.{LeavesOnly, AllSettled}
use Rattle.host_model.specs.declared.fault.Stop.{Stop}
use Rattle.fate_runner.specs.declared.text.StepWords.{StepWords}
use Rattle.fate_runner.specs.Book.{Book, Meaning, IsKept, pushed, popped, with_status}
use Rattle.fate_runner.specs.Works.{IsTop}
use Rattle.fate_runner.specs.declared.forms.TxStatus.{TxStatus}
use Rattle.fate_runner.specs.declared.forms.TxStatus.TheVariants.{Submitted, InProgress, FailedInProgress, Failed, Successful}
use Rattle.fate_runner.specs.declared.forms.Cause.{Cause}
use Rattle.fate_runner.specs.declared.forms.Going.{Going}
use Rattle.fate_runner.specs.declared.forms.Going.TheVariants.{Forward, Back}
use Rattle.fate_runner.specs.declared.forms.Next.{Next}
use Rattle.fate_runner.specs.declared.forms.Next.TheVariants.{Push, Done}
use Rattle.fate_runner.specs.declared.forms.Reason.{Reason}
use Rattle.fate_runner.specs.declared.forms.Turned.{Turned}
use Rattle.fate_runner.specs.declared.forms.Turned.TheVariants as turns

-- The rule of a turn: one push, one pop or one change of status, or it is deferred and changes nothing.
module _ {E S : Type 0} (spelled : S → StepWords) (suits : S → List ℕ → Type 0) (first_reason : S → ℕ → Going → E → Option Reason) (answer : S → ℕ → E → Result (Next S) Cause) (t : ℕ) (env : E) where
  pub data IsTurn (old : Book) (turned : Turned) (new : Book) : Type 0 where
    Starts : old.status ≡ Some Submitted → turned ≡ turns.Moved → new ≡ with_status InProgress None old → IsTurn old turned new
    Waits : (s : S) (reason : Reason) → IsTop (spelled s) (suits s) InProgress old → first_reason s t Forward env ≡ Some reason → turned ≡ turns.Deferred reason → new ≡ old → IsTurn old turned new
    Pushes : (s n : S) → IsTop (spelled s) (suits s) InProgress old → first_reason s t Forward env ≡ None → answer s t env ≡ Ok (Push n) → turned ≡ turns.Moved → new ≡ pushed (spelled n) old → IsTurn old turned new
    Ends : (s : S) → IsTop (spelled s) (suits s) InProgress old → first_reason s t Forward env ≡ None → answer s t env ≡ Ok Done → turned ≡ turns.Ended → new ≡ with_status Successful None old → IsTurn old turned new
    Breaks : (s : S) (cause : Cause) → IsTop (spelled s) (suits s) InProgress old → first_reason s t Forward env ≡ None → answer s t env ≡ Err cause → turned ≡ turns.Broken cause → new ≡ with_status FailedInProgress (Some cause) old → IsTurn old turned new
    Waits_back : (s : S) (reason : Reason) → IsTop (spelled s) (suits s) FailedInProgress old → first_reason s t Back env ≡ Some reason → turned ≡ turns.Deferred reason → new ≡ old → IsTurn old turned new
    Undoes : (s : S) → IsTop (spelled s) (suits s) FailedInProgress old → first_reason s t Back env ≡ None → turned ≡ turns.Moved → new ≡ popped old → IsTurn old turned new
    Gives_up : old.status ≡ Some FailedInProgress → old.stack ≡ [] → turned ≡ turns.Undone → new ≡ with_status Failed None old → IsTurn old turned new

-- the book that the rule gives
pub record IsGiven (rule : Turned → Book → Type 0) (b : Book) : Type 0 where
  pub turned : Turned
  pub rules : rule turned b

-- A picture inside a turn: it is kept, its book is that from before the turn or the one that the rule gives,
-- and each other transaction keeps what it relies on.
pub record InTurn (m : Meaning) (t : ℕ) (rule : Turned → Book → Type 0) (old p : Picture) : Type 0 where
  pub kept : IsKept m p
  pub book : (m.book p t ≡ m.book old t) ⊎ IsGiven rule (m.book p t)
  pub others : (u : ℕ) → u ≢ t → m.leaves u old p

-- What a turn does, by this rule.
pub record Takes (m : Meaning) (t : ℕ) (rule : Turned → Book → Type 0) (result : Result Turned Stop) (old new : HostState) : Type 0 where
  pub keeps : Keeps old new
  pub turn : IsTrue old.is_faithful → IsKept m (picture_now old) → IfOk result (λ turned. rule turned (m.book (picture_now new) t))
  -- also where it stops
  pub tried : IsTrue old.is_faithful → IsKept m (picture_now old) → InTurn m t rule (picture_now old) (picture_now new)
  -- a crash at any moment of the turn
  pub inside : IsTrue old.is_honest → AllSettled old → IsKept m (picture_now old) → LeavesOnly (InTurn m t rule (picture_now old)) old new
  pub rests : IsTrue old.is_honest → AllSettled old → IsKept m (picture_now old) → OnOk result (AllSettled new)
