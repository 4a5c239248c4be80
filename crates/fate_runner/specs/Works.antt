-- What the calls of steps and of stacks do to the disk.
use Rattle.std.specs.Prelude.{◌≡◌, ◌⊎◌, ℕ, List, [], ◌∷◌, Option, Some, None, Result, Ok, Err, IsTrue, OnOk, IfSome}
use Rattle.host_model.specs.Picture.{Picture}
use Rattle.host_model.specs.State.{HostState, picture_now}
use Rattle.host_model.specs.Calls.{Keeps}
use Rattle.host_model.specs.Leaves.{LeavesOnly, AllSettled}
use Rattle.host_model.specs.declared.fault.Stop.{Stop}
use Rattle.fate_runner.specs.declared.text.StepWords.{StepWords}
use Rattle.fate_runner.specs.Book.{Book, Meaning, IsKept, SetsBook, Within, pushed, popped, with_status}
use Rattle.fate_runner.specs.declared.forms.TxStatus.{TxStatus}
use Rattle.fate_runner.specs.declared.forms.TxStatus.TheVariants.{FailedInProgress, Successful}
use Rattle.fate_runner.specs.declared.forms.Cause.{Cause}
use Rattle.fate_runner.specs.declared.forms.Next.{Next}
use Rattle.fate_runner.specs.declared.forms.Next.TheVariants.{Push, Done}
use Rattle.fate_runner.specs.declared.forms.Reason.{Reason}
use Rattle.fate_runner.specs.declared.forms.Ready.{Ready}
use Rattle.fate_runner.specs.declared.forms.Ready.TheVariants.{Now, Defer}
use Rattle.fate_runner.specs.declared.forms.StepStop.{StepStop}
use Rattle.fate_runner.specs.declared.forms.StepStop.TheVariants as stops

-- One durable action. A fault or a crash on the way leaves a picture changed by `during`; at Ok it is changed by `after`.
pub record Acts {T : Type 0} (result : Result T Stop) (during after : Picture → Picture → Type 0) (old new : HostState) : Type 0 where
  pub keeps : Keeps old new
  pub tried : IsTrue old.is_faithful → during (picture_now old) (picture_now new)
  pub done : IsTrue old.is_faithful → OnOk result (after (picture_now old) (picture_now new))
  pub inside : IsTrue old.is_honest → AllSettled old → LeavesOnly (during (picture_now old)) old new
  pub rests : IsTrue old.is_honest → AllSettled old → OnOk result (AllSettled new)

-- this book alone becomes another, or none does
abbrev pub MaySetBook : (Picture → ℕ → Book) → (Picture → Picture → Type 0) → ℕ → Book → Picture → Picture → Type 0
MaySetBook book alike t b old new = SetsBook book alike t (book old t) old new ⊎ SetsBook book alike t b old new

-- one durable change of this book, whole or absent
abbrev pub Sets : {T : Type 0} → Result T Stop → (Picture → ℕ → Book) → (Picture → Picture → Type 0) → ℕ → Book → HostState → HostState → Type 0
Sets result book alike t b = Acts result (MaySetBook book alike t b) (SetsBook book alike t b)

-- The top step's work. At its end the picture fits the book that comes next, if there is one.
pub record Works (m : Meaning) (t : ℕ) (next : Option Book) (old new : HostState) : Type 0 where
  pub keeps : Keeps old new
  -- what is stored of transactions stays, whatever the picture is
  pub books : IsTrue old.is_faithful → IfSome next (λ _. (u : ℕ) → m.book (picture_now new) u ≡ m.book (picture_now old) u)
  -- also where it stops
  pub tried : IsTrue old.is_faithful → IsKept m (picture_now old) → Within m t (picture_now old) (picture_now new)
  pub done : IsTrue old.is_faithful → IsKept m (picture_now old) → IfSome next (λ b. m.fits (picture_now new) t b)
  pub inside : IsTrue old.is_honest → AllSettled old → IsKept m (picture_now old) → LeavesOnly (Within m t (picture_now old)) old new
  pub rests : IsTrue old.is_honest → AllSettled old → IsKept m (picture_now old) → IfSome next (λ _. AllSettled new)

-- the step is the top one of a transaction of this status
pub record IsTop (words : StepWords) (suits : List ℕ → Type 0) (status : TxStatus) (b : Book) : Type 0 where
  pub status_is : b.status ≡ Some status
  pub kind : suits b.kind
  pub below : List StepWords
  pub stack_is : b.stack ≡ words ∷ below

-- what `top` answers
abbrev pub IsTopOf : {S : Type 0} → (S → StepWords) → (S → List ℕ → Type 0) → Book → Option S → Type 0
IsTopOf spelled suits b None = b.stack ≡ []
IsTopOf spelled suits b (Some s) = suits s b.kind × ((below : List StepWords) × (b.stack ≡ spelled s ∷ below))

-- the book after this answer of a call
abbrev pub next_book : {S : Type 0} → (S → StepWords) → Book → Result (Next S) StepStop → Option Book
next_book spelled b (Ok (Push s)) = Some (pushed (spelled s) b)
next_book spelled b (Ok Done) = Some (with_status Successful None b)
next_book spelled b (Err (stops.Failed cause)) = Some (with_status FailedInProgress (Some cause) b)
next_book spelled b (Err (stops.Stop stop)) = None

-- the book after this answer of an undo
abbrev pub undone_book : Book → Result (Unit {0}) Stop → Option Book
undone_book b (Ok u) = Some (popped b)
undone_book b (Err stop) = None

-- the call answers this, or stops
abbrev pub Answers : {S : Type 0} → Result (Next S) Cause → Result (Next S) StepStop → Type 0
Answers answer (Ok next) = answer ≡ Ok next
Answers answer (Err (stops.Failed cause)) = answer ≡ Err cause
Answers answer (Err (stops.Stop stop)) = Unit {0}

-- where the call stops, it is for such a stop
abbrev pub IfStops : {S : Type 0} → Result (Next S) StepStop → (Stop → Type 0) → Type 0
IfStops (Ok next) P = Unit {0}
IfStops (Err (stops.Failed cause)) P = Unit {0}
IfStops (Err (stops.Stop stop)) P = P stop

-- unless the call stops
abbrev pub UnlessStops : {S : Type 0} → Result (Next S) StepStop → Type 0 → Type 0
UnlessStops (Ok next) P = P
UnlessStops (Err (stops.Failed cause)) P = P
UnlessStops (Err (stops.Stop stop)) P = Unit {0}

-- the step that a call names may stand in transactions of this kind
abbrev pub Suits : {S : Type 0} → (S → List ℕ → Type 0) → List ℕ → Result (Next S) StepStop → Type 0
Suits suits kind (Ok (Push s)) = suits s kind
Suits suits kind (Ok Done) = Unit {0}
Suits suits kind (Err e) = Unit {0}

-- a step is ready where there is no reason against it
abbrev pub ready_of : Option Reason → Ready
ready_of None = Now
ready_of (Some reason) = Defer reason
