-- Towers: what a transaction of two steps makes, and when what it made fits its book.
use Rattle.std.specs.Prelude.{◌≡◌, ◌⊎◌, ◌≢◌, ℕ, if◌then◌else◌, Bool, true, false, List, [], ◌∷◌, codes, Option, Some, None, Result, Ok, Err, is_some}
use Rattle.host_model.specs.Picture.{Picture}
use Rattle.node_store.specs.declared.changes.NodeOp.{NodeOp}
use Rattle.node_store.specs.declared.changes.NodeOp.TheVariants.{Create, Delete}
use Rattle.node_store.specs.Nodes.{Nodes}
use Rattle.fate_runner.specs.declared.text.StepWords.{StepWords}
use Rattle.fate_runner.specs.declared.forms.TxStatus.{TxStatus}
use Rattle.fate_runner.specs.declared.forms.TxStatus.TheVariants.{Submitted, InProgress, FailedInProgress, Failed, Successful}
use Rattle.fate_runner.specs.declared.forms.Cause.{Cause}
use Rattle.fate_runner.specs.declared.forms.Cause.TheVariants.{Exists}
use Rattle.fate_runner.specs.declared.forms.Going.{Going}
use Rattle.fate_runner.specs.declared.forms.Going.TheVariants.{Forward, Back}
use Rattle.fate_runner.specs.declared.forms.Next.{Next}
use Rattle.fate_runner.specs.declared.forms.Next.TheVariants.{Push, Done}
use Rattle.fate_runner.specs.declared.forms.Reason.{Reason}
use Rattle.fate_runner.specs.declared.forms.Reason.TheVariants.{Lock}
use Rattle.fate_runner.specs.Book.{Book, Meaning}
use Rattle.fate_trial.specs.declared.layout.Slot.{Slot}
use Rattle.fate_trial.specs.declared.layout.Slot.TheVariants.{Walls, Roof}
use Rattle.fate_runner.specs.Turn.{IsTurn, IsGiven}
use Rattle.fate_trial.specs.declared.levels.Level.{Level}
use Rattle.fate_trial.specs.declared.site.Site.{Site}
use Rattle.fate_trial.specs.declared.levels.Level.TheVariants.{Raise, Cover}
use Rattle.fate_trial.specs.Layout.{hold_path, ban_path, slot_path, value_at, has}
use Rattle.fate_trial.specs.Site.{nodes_of, IsReadable}
use Rattle.fate_trial.specs.Stored.{book_at, Alike}

abbrev pub raise : StepWords
raise = record { name = codes "Raise"; argument = [] }

abbrev pub cover : StepWords
cover = record { name = codes "Cover"; argument = [] }

abbrev pub level_words : Level → StepWords
level_words Raise = raise
level_words Cover = cover

-- both stand in towers alone
abbrev pub LevelSuits : Level → List ℕ → Type 0
LevelSuits level kind = kind ≡ codes "tower"

-- going forward, a step waits while there is a hold
abbrev pub tower_reason : Going → Nodes → Option Reason
tower_reason Forward nodes = if is_some (value_at nodes hold_path) then Some (Lock 0) else None
tower_reason Back nodes = None

-- there is no roof yet, and a ban
abbrev pub is_refused : ℕ → Nodes → Bool
is_refused tid nodes = if has nodes Roof tid then false else is_some (value_at nodes ban_path)

-- the roof follows the walls; where there is a ban and no roof yet, it is refused
abbrev pub tower_answer : Level → ℕ → Nodes → Result (Next Level) Cause
tower_answer Raise tid nodes = Ok (Push Cover)
tower_answer Cover tid nodes = if is_refused tid nodes then Err Exists else Ok Done

abbrev pub IsGoing : Option TxStatus → Type 0
IsGoing status = (status ≡ Some InProgress) ⊎ (status ≡ Some FailedInProgress)

-- What stands is what the book says: of the top step's work there may be any part, that of the step below is there, and a transaction that has not begun or is undone has made nothing.
pub data Fits (b : Book) (walls roof : Bool) : Type 0 where
  Unknown : b.status ≡ None → b.stack ≡ [] → walls ≡ false → roof ≡ false → Fits b walls roof
  Waits : b.status ≡ Some Submitted → b.stack ≡ raise ∷ [] → walls ≡ false → roof ≡ false → Fits b walls roof
  At_raise : IsGoing b.status → b.stack ≡ raise ∷ [] → roof ≡ false → Fits b walls roof
  At_cover : IsGoing b.status → b.stack ≡ cover ∷ raise ∷ [] → walls ≡ true → Fits b walls roof
  Undone : (b.status ≡ Some FailedInProgress) ⊎ (b.status ≡ Some Failed) → b.stack ≡ [] → walls ≡ false → roof ≡ false → Fits b walls roof
  Ended : b.status ≡ Some Successful → b.stack ≡ [] → walls ≡ true → roof ≡ true → Fits b walls roof

-- a transaction keeps its book and what it made
pub record Leaves (tid : ℕ) (old new : Picture) : Type 0 where
  pub book : book_at new tid ≡ book_at old tid
  pub walls : has (nodes_of new) Walls tid ≡ has (nodes_of old) Walls tid
  pub roof : has (nodes_of new) Roof tid ≡ has (nodes_of old) Roof tid

abbrev pub tower_meaning : Meaning
tower_meaning = record { book = book_at; fits = λ p tid b. Fits b (has (nodes_of p) Walls tid) (has (nodes_of p) Roof tid); rest = IsReadable; leaves = Leaves; alike = Alike }

-- a turn makes this book of a tower's: by the rule of turns
abbrev pub Turns : {H : Type 0} → ℕ → Site H → Book → Book → Type 0
Turns tid env old new = IsGiven (IsTurn level_words LevelSuits (λ step t going e. tower_reason going e.nodes.nodes) (λ step t e. tower_answer step t e.nodes.nodes) tid env old) new

-- this slot alone changes, and has a node or none
pub record Sets (slot : Slot) (tid : ℕ) (there : Bool) (old new : Picture) : Type 0 where
  pub readable : IsReadable old → IsReadable new
  pub elsewhere : (path : List ℕ) → path ≢ slot_path slot tid → value_at (nodes_of new) path ≡ value_at (nodes_of old) path
  pub is : has (nodes_of new) slot tid ≡ there

-- it changes, or is as it was
abbrev pub MaySet : Slot → ℕ → Bool → Picture → Picture → Type 0
MaySet slot tid there old new = Sets slot tid (has (nodes_of old) slot tid) old new ⊎ Sets slot tid there old new

-- what a tower is made of
abbrev pub IsPart : Slot → Type 0
IsPart slot = (slot ≡ Walls) ⊎ (slot ≡ Roof)

-- the changes make a part's node, which isn't there
pub record MakeChanges (nodes : Nodes) (part : Slot) (tid : ℕ) (ops : List NodeOp) : Type 0 where
  pub none : has nodes part tid ≡ false
  pub is : ops ≡ Create (slot_path part tid) (codes "-") ∷ []

-- they take it out
pub record TakeChanges (nodes : Nodes) (part : Slot) (tid : ℕ) (ops : List NodeOp) : Type 0 where
  pub there : has nodes part tid ≡ true
  pub is : ops ≡ Delete (slot_path part tid) None ∷ []
