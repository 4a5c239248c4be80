-- What is stored of a transaction: a status node and the nodes of at most two steps.
use Rattle.std.specs.Prelude.{◌≡◌, ◌≢◌, ◌⊎◌, ◌≤◌, ◌<◌, ℕ, ◌==◌, if◌then◌else◌, true, false, List, [], ◌∷◌, ◌++◌, length, take, drop, slice_index_or, Option, Some, None}
use Rattle.host_model.specs.Picture.{Picture}
use Rattle.node_store.specs.declared.changes.NodeOp.{NodeOp}
use Rattle.node_store.specs.declared.changes.NodeOp.TheVariants.{Create, Set, Delete}
use Rattle.node_store.specs.Nodes.{Nodes, path_of}
use Rattle.node_store.specs.Steps.{OthersStay}
use Rattle.fate_runner.specs.declared.text.StepWords.{StepWords}
use Rattle.fate_runner.specs.declared.forms.TxStatus.{TxStatus}
use Rattle.fate_runner.specs.declared.forms.TxStatus.TheVariants.{Submitted, InProgress, FailedInProgress, Failed, Successful}
use Rattle.fate_runner.specs.declared.forms.Cause.{Cause}
use Rattle.fate_runner.specs.declared.forms.Cause.TheVariants.{NoTable, Exists, Asked}
use Rattle.fate_runner.specs.Book.{Book}
use Rattle.fate_trial.specs.declared.layout.Slot.{Slot}
use Rattle.fate_trial.specs.declared.layout.Slot.TheVariants.{Status, Lower, Upper, Walls, Roof}
use Rattle.fate_trial.specs.Layout.{nodes_name, slot_path, slot_value, value_at, has, written, Applies}
use Rattle.fate_trial.specs.Site.{nodes_of, IsReadable}

abbrev pub status_letter : TxStatus → ℕ
status_letter Submitted = 83
status_letter InProgress = 73
status_letter FailedInProgress = 70
status_letter Failed = 88
status_letter Successful = 68

abbrev pub letter_status : ℕ → Option TxStatus
letter_status letter =
    if letter == 83 then Some Submitted else (if letter == 73 then Some InProgress else (if letter == 70 then Some FailedInProgress else (if letter == 88 then Some Failed else (if letter == 68 then Some Successful else None))))

abbrev pub cause_letter : Cause → ℕ
cause_letter NoTable = 116
cause_letter Exists = 101
cause_letter Asked = 97

abbrev pub letter_cause : ℕ → Option Cause
letter_cause letter = if letter == 116 then Some NoTable else (if letter == 101 then Some Exists else (if letter == 97 then Some Asked else None))

-- the letter of the new cause, or the one that was there
abbrev pub letter_after : Option Cause → ℕ → ℕ
letter_after None old = old
letter_after (Some cause) old = cause_letter cause

-- a status node's value has a letter for the status and one for the cause, and then the kind
abbrev pub status_in : Option (List ℕ) → Option TxStatus
status_in None = None
status_in (Some value) = letter_status (slice_index_or value 0 45)

abbrev pub cause_in : Option (List ℕ) → Option Cause
cause_in None = None
cause_in (Some value) = letter_cause (slice_index_or value 1 45)

abbrev pub kind_in : Option (List ℕ) → List ℕ
kind_in None = []
kind_in (Some value) = drop 2 value

-- the value with another status, and another cause where there is one
abbrev pub status_value : TxStatus → Option Cause → List ℕ → List ℕ
status_value status cause old = status_letter status ∷ letter_after cause (slice_index_or old 1 45) ∷ drop 2 old

-- a step's value has the length of its name, its name and its argument
abbrev pub step_value : StepWords → List ℕ
step_value words = length words.name ∷ words.name ++ words.argument

abbrev pub words_in : Option (List ℕ) → List StepWords
words_in None = []
words_in (Some value) = record { name = take (slice_index_or value 0 0) (drop 1 value); argument = drop (slice_index_or value 0 0) (drop 1 value) } ∷ []

-- the book that the values of the three nodes say: the upper step is the top
abbrev pub book_from : Option (List ℕ) → Option (List ℕ) → Option (List ℕ) → Book
book_from status lower upper = record { status = status_in status; cause = cause_in status; kind = kind_in status; stack = words_in upper ++ words_in lower }

unfoldable pub book_of : Nodes → ℕ → Book
book_of nodes tid = book_from (slot_value nodes Status tid) (slot_value nodes Lower tid) (slot_value nodes Upper tid)

abbrev pub book_at : Picture → ℕ → Book
book_at p tid = book_of (nodes_of p) tid

-- the slot is one of the three
abbrev pub IsOfBook : Slot → Type 0
IsOfBook Status = Unit {0}
IsOfBook Lower = Unit {0}
IsOfBook Upper = Unit {0}
IsOfBook Walls = ⊥
IsOfBook Roof = ⊥

-- the path is none of a transaction's book
abbrev pub IsOutside : List ℕ → Type 0
IsOutside path = (slot : Slot) (tid : ℕ) → IsOfBook slot → path ≢ slot_path slot tid

-- the two pictures differ at most in the nodes of books
pub record Alike (old new : Picture) : Type 0 where
  pub said : new.said ≡ old.said
  pub others : OthersStay nodes_name old.image new.image
  pub readable : IsReadable old → IsReadable new
  pub outside : (path : List ℕ) → IsOutside path → value_at (nodes_of new) path ≡ value_at (nodes_of old) path

-- the changes are of this transaction's book alone
abbrev pub AreOfBook : ℕ → List NodeOp → Type 0
AreOfBook tid [] = Unit {0}
AreOfBook tid (op ∷ more) = ((slot : Slot) × IsOfBook slot × (path_of op ≡ slot_path slot tid)) × AreOfBook tid more

-- the value in a slot after these changes
abbrev pub slot_after : List NodeOp → Nodes → Slot → ℕ → Option (List ℕ)
slot_after ops nodes slot tid = written ops (slot_path slot tid) (slot_value nodes slot tid)

-- the changes are of this transaction's book, apply, and make this of it
pub record WritesBook (tid : ℕ) (nodes : Nodes) (ops : List NodeOp) (book : Book) : Type 0 where
  pub own : AreOfBook tid ops
  pub applies : Applies ops nodes
  pub is : book_from (slot_after ops nodes Status tid) (slot_after ops nodes Lower tid) (slot_after ops nodes Upper tid) ≡ book

-- the change that takes a slot's node out, if it is there
abbrev pub taking : Slot → ℕ → Option (List ℕ) → List NodeOp
taking slot tid None = []
taking slot tid (Some value) = Delete (slot_path slot tid) None ∷ []

-- a transaction that succeeds loses its steps
abbrev pub taken_out : TxStatus → List NodeOp → List NodeOp
taken_out Submitted ops = []
taken_out InProgress ops = []
taken_out FailedInProgress ops = []
taken_out Failed ops = []
taken_out Successful ops = ops

-- the changes that set a status over this value, with these steps
abbrev pub status_ops : ℕ → TxStatus → Option Cause → List ℕ → Option (List ℕ) → Option (List ℕ) → List NodeOp
status_ops tid status cause old upper lower = Set (slot_path Status tid) (status_value status cause old) None ∷ taken_out status (taking Upper tid upper ++ taking Lower tid lower)

-- the top step's words, where there is one
abbrev pub IsTopWords : List StepWords → Option StepWords → Type 0
IsTopWords stack None = stack ≡ []
IsTopWords stack (Some words) = (below : List StepWords) × (stack ≡ words ∷ below)

-- where a step is pushed: above the others, and nowhere where there are two
abbrev pub IsFree : Nodes → ℕ → Option Slot → Type 0
IsFree nodes tid None = has nodes Upper tid ≡ true
IsFree nodes tid (Some Status) = ⊥
IsFree nodes tid (Some Lower) = (has nodes Upper tid ≡ false) × (has nodes Lower tid ≡ false)
IsFree nodes tid (Some Upper) = (has nodes Upper tid ≡ false) × (has nodes Lower tid ≡ true)
IsFree nodes tid (Some Walls) = ⊥
IsFree nodes tid (Some Roof) = ⊥

-- where the top step is, if there is one
abbrev pub IsTopSlot : Nodes → ℕ → Option Slot → Type 0
IsTopSlot nodes tid None = (has nodes Upper tid ≡ false) × (has nodes Lower tid ≡ false)
IsTopSlot nodes tid (Some Status) = ⊥
IsTopSlot nodes tid (Some Lower) = (has nodes Upper tid ≡ false) × (has nodes Lower tid ≡ true)
IsTopSlot nodes tid (Some Upper) = has nodes Upper tid ≡ true
IsTopSlot nodes tid (Some Walls) = ⊥
IsTopSlot nodes tid (Some Roof) = ⊥

-- a push has no place: there are two steps, or the length of the step's name is no byte
abbrev pub HasNoPlace : Nodes → ℕ → StepWords → Type 0
HasNoPlace nodes tid words = IsFree nodes tid None ⊎ (256 ≤ length words.name)

-- the changes push this step
pub record PushChanges (nodes : Nodes) (tid : ℕ) (words : StepWords) (ops : List NodeOp) : Type 0 where
  pub short : length words.name < 256
  pub slot : Slot
  pub free : IsFree nodes tid (Some slot)
  pub is : ops ≡ Create (slot_path slot tid) (step_value words) ∷ []

-- they pop the top step
pub record PopChanges (nodes : Nodes) (tid : ℕ) (ops : List NodeOp) : Type 0 where
  pub slot : Slot
  pub top : IsTopSlot nodes tid (Some slot)
  pub is : ops ≡ Delete (slot_path slot tid) None ∷ []

-- they set the status
pub record StatusChanges (nodes : Nodes) (tid : ℕ) (status : TxStatus) (cause : Option Cause) (ops : List NodeOp) : Type 0 where
  pub old : List ℕ
  pub there : value_at nodes (slot_path Status tid) ≡ Some old
  pub is : ops ≡ status_ops tid status cause old (value_at nodes (slot_path Upper tid)) (value_at nodes (slot_path Lower tid))
