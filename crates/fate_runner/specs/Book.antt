-- What a picture holds of a transaction, and what its steps make of a picture.
use Rattle.std.specs.Prelude.{◌≡◌, ◌≢◌, ℕ, List, [], ◌∷◌, Option, Some, None}
use Rattle.host_model.specs.Picture.{Picture}
use Rattle.fate_runner.specs.declared.text.StepWords.{StepWords}
use Rattle.fate_runner.specs.declared.forms.TxStatus.{TxStatus}
use Rattle.fate_runner.specs.declared.forms.TxStatus.TheVariants.{Submitted, InProgress, FailedInProgress, Failed, Successful}
use Rattle.fate_runner.specs.declared.forms.Cause.{Cause}

-- what is stored of one transaction; the top of the stack comes first
pub record Book : Type 0 where
  pub status : Option TxStatus
  pub cause : Option Cause
  pub kind : List ℕ
  pub stack : List StepWords

abbrev pub pushed : StepWords → Book → Book
pushed w b = record { status = b.status; cause = b.cause; kind = b.kind; stack = w ∷ b.stack }

abbrev pub tail_of : List StepWords → List StepWords
tail_of [] = []
tail_of (w ∷ ws) = ws

abbrev pub popped : Book → Book
popped b = record { status = b.status; cause = b.cause; kind = b.kind; stack = tail_of b.stack }

-- no cause leaves the one that was there
abbrev pub cause_after : Option Cause → Option Cause → Option Cause
cause_after None old = old
cause_after (Some cause) old = Some cause

-- a transaction that succeeds loses its stack
abbrev pub stack_after : TxStatus → List StepWords → List StepWords
stack_after Submitted ws = ws
stack_after InProgress ws = ws
stack_after FailedInProgress ws = ws
stack_after Failed ws = ws
stack_after Successful ws = []

abbrev pub with_status : TxStatus → Option Cause → Book → Book
with_status s c b = record { status = Some s; cause = cause_after c b.cause; kind = b.kind; stack = stack_after s b.stack }

-- the transaction is there, and neither done nor undone
abbrev pub IsOpen : Option TxStatus → Type 0
IsOpen None = ⊥
IsOpen (Some Submitted) = Unit {0}
IsOpen (Some InProgress) = Unit {0}
IsOpen (Some FailedInProgress) = Unit {0}
IsOpen (Some Failed) = ⊥
IsOpen (Some Successful) = ⊥

-- the transaction is there and unfinished, with a step where it goes forward
pub record IsUnfinished (b : Book) : Type 0 where
  pub is_open : IsOpen b.status
  pub has_step : b.status ≡ Some InProgress → b.stack ≢ []

-- What the transactions mean in a picture. It is one for all kinds of steps of a program.
pub record Meaning : Type 1 where
  -- what is stored of each transaction
  pub book : Picture → ℕ → Book
  -- what belongs to the transaction is what this book says: it fits
  pub fits : Picture → ℕ → Book → Type 0
  -- what else holds of each picture
  pub rest : Picture → Type 0
  -- from one picture to the other the transaction keeps what it relies on
  pub leaves : ℕ → Picture → Picture → Type 0
  -- the two pictures differ at most in books
  pub alike : Picture → Picture → Type 0

-- each transaction fits what is stored of it
pub record IsKept (m : Meaning) (p : Picture) : Type 0 where
  pub rest : m.rest p
  pub fits : (u : ℕ) → m.fits p u (m.book p u)

-- this book alone becomes another
pub record SetsBook (book : Picture → ℕ → Book) (alike : Picture → Picture → Type 0) (t : ℕ) (b : Book) (old new : Picture) : Type 0 where
  pub same : alike old new
  pub is : book new t ≡ b
  pub others : (u : ℕ) → u ≢ t → book new u ≡ book old u

-- a picture inside the work of a step of this transaction
pub record Within (m : Meaning) (t : ℕ) (old p : Picture) : Type 0 where
  pub books : (u : ℕ) → m.book p u ≡ m.book old u
  pub rest : m.rest p
  pub fits : m.fits p t (m.book old t)
  pub others : (u : ℕ) → u ≢ t → m.leaves u old p

-- the laws of a meaning
pub record IsLawful (m : Meaning) : Type 0 where
  -- fitting is kept by all that leaves a transaction what it relies on
  pub relies : (u : ℕ) (p q : Picture) (b : Book) → m.leaves u p q → m.fits p u b → m.fits q u b
  pub keeps_book : (u : ℕ) (p q : Picture) → m.leaves u p q → m.book q u ≡ m.book p u
  pub stays : (u : ℕ) (p : Picture) → m.leaves u p p
  pub goes_on : (u : ℕ) (p q r : Picture) → m.leaves u p q → m.leaves u q r → m.leaves u p r
  pub alike_leaves : (u : ℕ) (p q : Picture) → m.alike p q → m.book q u ≡ m.book p u → m.leaves u p q
  pub alike_fits : (u : ℕ) (p q : Picture) (b : Book) → m.alike p q → m.fits p u b → m.fits q u b
  pub alike_rest : (p q : Picture) → m.alike p q → m.rest p → m.rest q
  -- a transaction that starts fits as before, and so does one that has nothing left to undo
  pub starts : (t : ℕ) (p : Picture) (b : Book) → b.status ≡ Some Submitted → m.fits p t b → m.fits p t (with_status InProgress None b)
  pub gives_up : (t : ℕ) (p : Picture) (b : Book) → b.status ≡ Some FailedInProgress → b.stack ≡ [] → m.fits p t b → m.fits p t (with_status Failed None b)
