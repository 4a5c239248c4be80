-- When stacks and steps speak of one environment in the same words.
use Rattle.std.specs.Prelude.{◌≡◌, ℕ, List, ◌↔◌}
use Rattle.host_model.specs.Picture.{Picture}
use Rattle.host_model.specs.State.{HostState}
use Rattle.fate_runner.specs.declared.text.StepWords.{StepWords}
use Rattle.fate_runner.specs.Book.{Book, Meaning}

-- two ways of seeing one disk, which agree
pub record Agree (a b : HostState) : Type 0 where
  pub files : a.files ≡ b.files
  pub said : a.said ≡ b.said
  pub script : a.script ≡ b.script
  pub moment : a.moment ≡ b.moment
  pub faults : a.faults ≡ b.faults
  pub before : a.before ≡ b.before
  pub last : a.last ≡ b.last
  pub may_leave : (p : Picture) → b.may_leave p → a.may_leave p
  pub may_leave_back : (p : Picture) → a.may_leave p → b.may_leave p
  pub left_since : (t : ℕ) (p : Picture) → b.left_since t p → a.left_since t p
  pub left_since_back : (t : ℕ) (p : Picture) → a.left_since t p → b.left_since t p
  pub faithful : a.is_faithful ≡ b.is_faithful
  pub honest : a.is_honest ≡ b.is_honest

-- the stacks and the steps speak of the same disk, in the same words, and these are the words that are written and read
pub record Agrees {E S : Type 0} (state : E → HostState) (book : Picture → ℕ → Book) (alike : Picture → Picture → Type 0) (spelled : S → StepWords) (suits : S → List ℕ → Type 0)
    (step_state : E → HostState) (m : Meaning) (step_spelled : S → StepWords) (step_suits : S → List ℕ → Type 0) (text : S → StepWords) (text_suits : S → List ℕ → Type 0) : Type 0 where
  pub states : (e : E) → Agree (state e) (step_state e)
  pub books : (p : Picture) (t : ℕ) → book p t ≡ m.book p t
  pub likes : (p q : Picture) → alike p q → m.alike p q
  pub same_words : (s : S) → spelled s ≡ step_spelled s
  pub same_suits : (s : S) (kind : List ℕ) → suits s kind ↔ step_suits s kind
  pub same_text : (s : S) → text s ≡ step_spelled s
  pub same_text_suits : (s : S) (kind : List ℕ) → text_suits s kind ↔ step_suits s kind

-- An environment that goes on for the one does so for the other, and writing the stacks offers no entry.
pub record GoesOn {E : Type 0} (live : E → Type 0) (beside : E → E → Type 0) (step_live able : E → Type 0) : Type 0 where
  pub lives : (e : E) → step_live e → live e
  pub stays_able : (old new : E) → beside old new → able old → able new
