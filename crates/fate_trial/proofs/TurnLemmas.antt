-- What turns leave kept.
use Rattle.std.proofs.Common.{◌≡◌, ℕ, [], Option, Some, Result, Ok, IsTrue, sym, ap, subst, arith}
use Rattle.host_model.specs.State.{HostState, picture_now}
use Rattle.host_model.specs.Calls.{IsSound}
use Rattle.host_model.specs.Leaves.{LeavesOnly, AllSettled}
use Rattle.host_model.specs.declared.fault.Stop.{Stop}
use Rattle.host_model.proofs.LeavesLemmas.{leaves_start, leaves_weaker, rests_shows}
use Rattle.fate_runner.specs.declared.text.StepWords.{StepWords}
use Rattle.fate_runner.specs.declared.forms.Turned.{Turned}
use Rattle.fate_runner.specs.declared.forms.TxStatus.{TxStatus}
use Rattle.fate_runner.specs.declared.forms.TxStatus.TheVariants.{Submitted, InProgress, FailedInProgress}
use Rattle.fate_runner.specs.Book.{Book, IsKept, IsOpen, IsUnfinished}
use Rattle.std.specs.Prelude.{IfOk}
use Rattle.fate_runner.specs.Turn.{Takes, IsGiven}
use Rattle.fate_trial.specs.Stored.{book_at, IsTopWords}
use Rattle.fate_trial.specs.Towers.{tower_meaning}
use Rattle.fate_trial.specs.TowerLaws.{status_code, size_code}

-- no turn is taken
pub inside_still : {a : HostState} → IsSound a → IsTrue a.is_honest → AllSettled a → IsKept tower_meaning (picture_now a) → LeavesOnly (IsKept tower_meaning) a a
inside_still sound honest at_rest kept = leaves_start (IsKept tower_meaning) sound honest (λ p now. subst (λ q. IsKept tower_meaning q) (sym (rests_shows sound honest at_rest p now)) kept)

module _ {rule : Turned → Book → Type 0} {t : ℕ} {result : Result Turned Stop} {a b : HostState} (takes : Takes tower_meaning t rule result a b) where
  pub inside_turn : IsTrue a.is_honest → AllSettled a → IsKept tower_meaning (picture_now a) → LeavesOnly (IsKept tower_meaning) a b
  inside_turn honest at_rest kept = leaves_weaker (takes.inside honest at_rest kept) (λ p inside. inside.kept)

  pub given_turn : (turned : Turned) → result ≡ Ok turned → IsTrue a.is_faithful → IsKept tower_meaning (picture_now a) → IsGiven rule (book_at (picture_now b) t)
  given_turn turned is f kept = record { turned = turned; rules = subst (λ r. IfOk r (λ given. rule given (book_at (picture_now b) t))) is (takes.turn f kept) }

  pub kept_turn : IsTrue a.is_faithful → IsKept tower_meaning (picture_now a) → IsKept tower_meaning (picture_now b)
  kept_turn f kept = (takes.tried f kept).kept

-- what is unfinished
pub submitted : (b : Book) → b.status ≡ Some Submitted → IsUnfinished b
submitted b is = record { is_open = subst (λ s. IsOpen s) (sym is) tt; has_step = λ other. absurd (omega (arith, ap status_code is, ap status_code other)) }

pub going_back : (b : Book) → b.status ≡ Some FailedInProgress → IsUnfinished b
going_back b is = record { is_open = subst (λ s. IsOpen s) (sym is) tt; has_step = λ other. absurd (omega (arith, ap status_code is, ap status_code other)) }

pub going_forward : (b : Book) (words : StepWords) → b.status ≡ Some InProgress → IsTopWords b.stack (Some words) → IsUnfinished b
going_forward b words is top = record { is_open = subst (λ s. IsOpen s) (sym is) tt; has_step = λ other empty. absurd (omega (arith, ap size_code top.1, ap size_code empty)) }

-- and what isn't
pub ended : (b : Book) (s : Option TxStatus) → b.status ≡ s → (IsOpen s → ⊥) → IsUnfinished b → ⊥
ended b s is shut unfinished = shut (subst (λ o. IsOpen o) is unfinished.is_open)

pub stepless : (b : Book) → b.status ≡ Some InProgress → b.stack ≡ [] → IsUnfinished b → ⊥
stepless b is empty unfinished = unfinished.has_step is empty
