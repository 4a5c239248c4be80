-- Why calls on a site stop.
use Rattle.std.specs.Prelude.{◌≡◌, ◌≢◌, ◌⊎◌, ℕ, List, [], ◌∷◌, Option, None, Result, Err, IsTrue}
use Rattle.host_model.specs.State.{HostState}
use Rattle.host_model.specs.Calls.{IsOfFiles, Faulted}
use Rattle.host_model.specs.declared.fault.Stop.{Stop}
use Rattle.host_model.specs.declared.fault.Stop.TheVariants.{Host, Damaged, Full, NoMemory}
use Rattle.node_store.specs.declared.changes.NodeOp.{NodeOp}
use Rattle.node_store.specs.declared.changes.NodeOp.TheVariants.{Create}
use Rattle.node_store.specs.declared.changes.NodeStop.TheVariants as node
use Rattle.node_store.specs.Nodes.{Nodes}
use Rattle.node_store.specs.Image.{HasNoNodes}
use Rattle.node_store.specs.Answers.{MultiCause, IsEarly}
use Rattle.fate_runner.specs.declared.text.StepWords.{StepWords}
use Rattle.fate_runner.specs.declared.forms.TxStatus.{TxStatus}
use Rattle.fate_runner.specs.declared.forms.Cause.{Cause}
use Rattle.fate_runner.specs.Book.{Book}
use Rattle.fate_runner.specs.Passing.{Stopped}
use Rattle.fate_trial.specs.declared.layout.Slot.{Slot}
use Rattle.fate_trial.specs.declared.layout.Slot.TheVariants.{Status}
use Rattle.fate_trial.specs.declared.levels.Level.{Level}
use Rattle.fate_trial.specs.declared.site.Site.{Site}
use Rattle.fate_trial.specs.Layout.{nodes_name, slot_path, value_at}
use Rattle.fate_trial.specs.Site.{GoesOn, IsDead}
use Rattle.fate_trial.specs.Stored.{book_of, HasNoPlace, IsTopSlot, PushChanges, PopChanges, StatusChanges}
use Rattle.fate_trial.specs.Towers.{IsPart, MakeChanges, TakeChanges, level_words, LevelSuits}

-- it stops so, or for want of memory
abbrev pub StopsSo : {T : Type 0} → Stop → Result T Stop → Type 0
StopsSo stop result = (result ≡ Err stop) ⊎ (result ≡ Err NoMemory)

-- why there is no new site: a fault of a call on files, which is counted, or want of memory
abbrev pub CreateStop : Stop → HostState → HostState → Type 0
CreateStop (Host fault) old new = IsOfFiles fault × Faulted fault old new
CreateStop (Damaged name) old new = ⊥
CreateStop Full old new = ⊥
CreateStop NoMemory old new = Unit {0}

-- why none is opened: such a fault, want of memory, or the host has no nodes
abbrev pub OpenStop : Stop → HostState → HostState → Type 0
OpenStop (Host fault) old new = IsOfFiles fault × Faulted fault old new
OpenStop (Damaged name) old new = (name ≡ nodes_name) × (IsTrue old.is_faithful → HasNoNodes nodes_name old.files)
OpenStop Full old new = ⊥
OpenStop NoMemory old new = Unit {0}

-- no change is made
abbrev pub none : List NodeOp → Type 0
none ops = ⊥

-- nothing is refused
abbrev pub never : Stop → Type 0
never stop = ⊥

-- the changes give a path a node, which has none
pub record PutChanges (nodes : Nodes) (path value : List ℕ) (ops : List NodeOp) : Type 0 where
  pub free : value_at nodes path ≡ None
  pub is : ops ≡ Create path value ∷ []

-- the stored step is no step of this kind
pub record IsStrange {S : Type 0} (spelled : S → StepWords) (suits : S → List ℕ → Type 0) (b : Book) : Type 0 where
  pub words : StepWords
  pub below : List StepWords
  pub is : b.stack ≡ words ∷ below
  pub no_step : (s : S) → suits s b.kind → spelled s ≢ words

-- a push is refused where there is no place for the step
abbrev pub RefusesPush : Nodes → ℕ → StepWords → Stop → Type 0
RefusesPush nodes tid words stop = HasNoPlace nodes tid words × (stop ≡ Full)

-- a pop where there is no step
abbrev pub RefusesPop : Nodes → ℕ → Stop → Type 0
RefusesPop nodes tid stop = IsTopSlot nodes tid None × (stop ≡ Damaged nodes_name)

-- a status where there is no transaction
abbrev pub RefusesStatus : Nodes → ℕ → Stop → Type 0
RefusesStatus nodes tid stop = (value_at nodes (slot_path Status tid) ≡ None) × (stop ≡ Damaged nodes_name)

-- the top step is not read where it is no step of the transaction's kind
abbrev pub RefusesTop : {S : Type 0} → (S → StepWords) → (S → List ℕ → Type 0) → Book → Stop → Type 0
RefusesTop spelled suits b stop = IsStrange spelled suits b × (stop ≡ Damaged nodes_name)

module _ {H : Type 0} (state : H → HostState) where
  -- These changes of the nodes failed, for a fault, for want of memory, or because there is no room for them; and it has stopped for good.
  pub record Fails (ops : List NodeOp) (stop : Stop) (old new : Site H) : Type 0 where
    pub runs : old.stopped ≡ None
    pub cause : MultiCause ops old.nodes (node.Stop stop) (state old.host) (state new.host)
    -- there is no room, or no memory, before the host is called
    pub early : IsEarly (node.Stop stop) → new.host ≡ old.host
    pub dead : IsDead state new stop

  -- Why a call stops that makes changes of this kind, or refuses so: it had stopped before; or nothing was changed, and memory was short or the call refused; or the changes failed.
  pub data SiteStops (changes : List NodeOp → Type 0) (refuses : Stop → Type 0) (stop : Stop) (old new : Site H) : Type 0 where
    Again : IsDead state old stop → new ≡ old → SiteStops changes refuses stop old new
    Short : old.stopped ≡ None → stop ≡ NoMemory → new ≡ old → SiteStops changes refuses stop old new
    Refused : old.stopped ≡ None → refuses stop → new ≡ old → SiteStops changes refuses stop old new
    Failed : (ops : List NodeOp) → changes ops → Fails ops stop old new → SiteStops changes refuses stop old new

  -- why a call of the stacks of such steps stops
  pub data StackStops {S : Type 0} (spelled : S → StepWords) (suits : S → List ℕ → Type 0) (stop : Stop) (old new : Site H) : Type 0 where
    At_status : SiteStops none never stop old new → StackStops spelled suits stop old new
    At_top : (tid : ℕ) → SiteStops none (RefusesTop spelled suits (book_of old.nodes.nodes tid)) stop old new → StackStops spelled suits stop old new
    At_push : (tid : ℕ) (s : S) → SiteStops (PushChanges old.nodes.nodes tid (spelled s)) (RefusesPush old.nodes.nodes tid (spelled s)) stop old new → StackStops spelled suits stop old new
    At_pop : (tid : ℕ) → SiteStops (PopChanges old.nodes.nodes tid) (RefusesPop old.nodes.nodes tid) stop old new → StackStops spelled suits stop old new
    At_set : (tid : ℕ) (status : TxStatus) (cause : Option Cause) → SiteStops (StatusChanges old.nodes.nodes tid status cause) (RefusesStatus old.nodes.nodes tid) stop old new → StackStops spelled suits stop old new

  -- why a call of a tower's step stops: nothing is refused
  pub data StepStops (stop : Stop) (old new : Site H) : Type 0 where
    Asking : SiteStops none never stop old new → StepStops stop old new
    Making : (part : Slot) (tid : ℕ) → IsPart part → SiteStops (MakeChanges old.nodes.nodes part tid) never stop old new → StepStops stop old new
    Taking : (part : Slot) (tid : ℕ) → IsPart part → SiteStops (TakeChanges old.nodes.nodes part tid) never stop old new → StepStops stop old new

  -- why a turn of a tower stops: a call of the stacks did, or one of the step
  abbrev pub TurnStops : ℕ → Stop → Site H → Site H → Type 0
  TurnStops tid stop old new =
      Stopped {S = Level} (λ a b. b ≡ a) (λ s t a b. GoesOn state b) (λ s t a b. GoesOn state b) (StackStops level_words LevelSuits) StepStops tid stop old new
