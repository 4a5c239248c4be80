-- The one shape of what changes a ground: an action of it, or an event of many.
use Rattle.std.specs.Prelude.{◌≡◌, ◌⊎◌, ℕ, ◌++◌, length, List, Option, Some, None, Result, Ok, Err, IsTrue, IfOk, IfErr, OnOk}
use Rattle.host_model.specs.Picture.{Image}
use Rattle.host_model.specs.State.{HostState, picture_now}
use Rattle.host_model.specs.Calls.{Keeps, IsQuiet, Faulted, SaysFront, HearsFront}
use Rattle.host_model.specs.Leaves.{LeavesOnly, Shows, Told, AllSettled}
use Rattle.host_model.specs.declared.fault.Stop.{Stop}
use Rattle.host_model.specs.declared.fault.Stop.TheVariants.{Host, Damaged, Full, NoMemory}
use Rattle.node_store.specs.declared.changes.NodeStop.{NodeStop}
use Rattle.node_store.specs.declared.changes.NodeStop.TheVariants as refused
use Rattle.ground_store.specs.Value.{GroundValue}

-- the stop in an answer, if it is one
abbrev pub stop_of : {T : Type 0} → Result T Stop → Option Stop
stop_of (Ok value) = None
stop_of (Err stop) = Some stop

-- a refused multi is no stop
abbrev pub stop_in : {T : Type 0} → Result T NodeStop → Option Stop
stop_in (Ok value) = None
stop_in (Err refused.Exists) = None
stop_in (Err refused.Missing) = None
stop_in (Err (refused.Version found)) = None
stop_in (Err (refused.Stop stop)) = Some stop

-- it holds where nothing stopped
abbrev pub Unless : Option Stop → Type 0 → Type 0
Unless None fact = fact
Unless (Some stop) fact = Unit {0}

-- the same stop, or want of memory for the copy of its name
abbrev pub IsAgain : Stop → Stop → Type 0
IsAgain (Host fault) answer = answer ≡ Host fault
IsAgain (Damaged name) answer = (answer ≡ Damaged name) ⊎ (answer ≡ NoMemory)
IsAgain Full answer = answer ≡ Full
IsAgain NoMemory answer = answer ≡ NoMemory

-- a fault of the host is counted, and its last call is the one that counted it
abbrev pub IsCounted : Stop → HostState → HostState → Type 0
IsCounted (Host fault) old new = Faulted fault old new
IsCounted (Damaged name) old new = Unit {0}
IsCounted Full old new = Unit {0}
IsCounted NoMemory old new = Unit {0}

-- it stopped, and keeps why
pub record KeepsStop (kept : Option Stop) (stop : Stop) (old new : HostState) : Type 0 where
  pub own : Stop
  pub is : kept ≡ Some own
  pub again : IsAgain own stop
  pub counted : IsCounted own old new

-- a refused multi is answered as it is; any other stop of one is kept, and answered again
abbrev pub KeepsStopOf : NodeStop → Option Stop → Option Stop → NodeStop → Type 0
KeepsStopOf refused.Exists old new answer = (answer ≡ refused.Exists) × (new ≡ old)
KeepsStopOf refused.Missing old new answer = (answer ≡ refused.Missing) × (new ≡ old)
KeepsStopOf (refused.Version found) old new answer = (answer ≡ refused.Version found) × (new ≡ old)
KeepsStopOf (refused.Stop own) old new answer = (new ≡ Some own) × ((stop : Stop) × (answer ≡ refused.Stop stop) × IsAgain own stop)

-- it goes on, or keeps why it stopped
abbrev pub GoesOn : Option Stop → Option Stop → HostState → HostState → Type 0
GoesOn None kept old new = kept ≡ None
GoesOn (Some stop) kept old new = KeepsStop kept stop old new

-- Nothing is said or heard. The files are changed by `during`, and where nothing stopped by `after`, and then nothing is pending.
-- A crash at any moment on the way leaves files changed by `during`.
pub record Goes {H : Type 0} (state : H → HostState) (during after : Image → Image → Type 0) (stop : Option Stop) (old new : GroundValue H) : Type 0 where
  pub quiet : IsQuiet (state old.host) (state new.host)
  pub tried : IsTrue (state old.host).is_faithful → during (state old.host).files (state new.host).files
  pub done : IsTrue (state old.host).is_faithful → Unless stop (after (state old.host).files (state new.host).files)
  pub leaves : IsTrue (state old.host).is_honest → LeavesOnly (Shows (during (state old.host).files) (state old.host).said) (state old.host) (state new.host)
  pub rests : IsTrue (state old.host).is_honest → Unless stop (AllSettled (state new.host))
  pub goes_on : GoesOn stop new.stopped (state old.host) (state new.host)

-- a ground that has stopped asks nothing of the host, and answers the same stop
pub record StaysStopped {H : Type 0} (own : Stop) (stop : Option Stop) (old new : GroundValue H) : Type 0 where
  pub same : new ≡ old
  pub answer : Stop
  pub is : stop ≡ Some answer
  pub again : IsAgain own answer

pub record Acts {H : Type 0} (state : H → HostState) (during after : Image → Image → Type 0) (stop : Option Stop) (old new : GroundValue H) : Type 0 where
  pub goes : old.stopped ≡ None → Goes state during after stop old new
  pub stays : (own : Stop) → old.stopped ≡ Some own → StaysStopped own stop old new

-- the files and the script stay, and these bytes are said, or a front of them
pub record Speaks {H : Type 0} (state : H → HostState) (bytes : List ℕ) (stop : Option Stop) (old new : GroundValue H) : Type 0 where
  pub keeps : Keeps (state old.host) (state new.host)
  pub same : IsTrue (state old.host).is_faithful → ((state new.host).files ≡ (state old.host).files) × ((state new.host).script ≡ (state old.host).script)
  pub said : IsTrue (state old.host).is_faithful → Unless stop ((state new.host).said ≡ (state old.host).said ++ bytes)
  pub tried : IsTrue (state old.host).is_faithful → SaysFront bytes (picture_now (state old.host)) (picture_now (state new.host))
  pub leaves : IsTrue (state old.host).is_honest → LeavesOnly (Told (state old.host).files (state old.host).said bytes) (state old.host) (state new.host)
  pub rests : IsTrue (state old.host).is_honest → Unless stop (AllSettled (state new.host))
  pub goes_on : GoesOn stop new.stopped (state old.host) (state new.host)

pub record Tells {H : Type 0} (state : H → HostState) (bytes : List ℕ) (stop : Option Stop) (old new : GroundValue H) : Type 0 where
  pub goes : old.stopped ≡ None → Speaks state bytes stop old new
  pub stays : (own : Stop) → old.stopped ≡ Some own → StaysStopped own stop old new

-- the files and the said bytes stay, and a front of the script is heard
pub record Hearkens {H : Type 0} (state : H → HostState) (into : List ℕ) (result : Result ℕ Stop) (old new : GroundValue H) : Type 0 where
  pub keeps : Keeps (state old.host) (state new.host)
  pub same : IsTrue (state old.host).is_faithful → ((state new.host).files ≡ (state old.host).files) × ((state new.host).said ≡ (state old.host).said)
  pub heard : IsTrue (state old.host).is_faithful → IfOk result (λ count. HearsFront (length into) count into (state old.host).script (state new.host).script)
  pub unheard : IsTrue (state old.host).is_faithful → IfErr result (λ _. (state new.host).script ≡ (state old.host).script)
  pub leaves : IsTrue (state old.host).is_honest → LeavesOnly (λ p. p ≡ picture_now (state old.host)) (state old.host) (state new.host)
  pub rests : IsTrue (state old.host).is_honest → OnOk result (AllSettled (state new.host))
  pub goes_on : GoesOn (stop_of result) new.stopped (state old.host) (state new.host)

pub record Listens {H : Type 0} (state : H → HostState) (into : List ℕ) (result : Result ℕ Stop) (old new : GroundValue H) : Type 0 where
  pub goes : old.stopped ≡ None → Hearkens state into result old new
  pub stays : (own : Stop) → old.stopped ≡ Some own → StaysStopped own (stop_of result) old new
