-- What a run does, by how far it came.
use Rattle.std.specs.Prelude.{◌≡◌, ◌⊎◌, ℕ, ◌++◌, Bool, true, false, List, Result, IfErr, OnOk, IsTrue, option_to_list}
use Rattle.host_model.specs.Picture.{Picture}
use Rattle.host_model.specs.State.{HostState}
use Rattle.host_model.specs.Calls.{Keeps}
use Rattle.host_model.specs.Kinds.{IsOfScript}
use Rattle.host_model.specs.Leaves.{LeavesOnly, AllSettled}
use Rattle.host_model.specs.declared.fault.Stop.{Stop}
use Rattle.host_model.specs.declared.fault.Stop.TheVariants.{Full, NoMemory}
use Rattle.store_layout.specs.NewStore.{IsUnbornDisk}
use Rattle.ground_store.specs.declared.stop.GroundStop.{GroundStop}
use Rattle.table_store.specs.Tables.{Tables}
use Rattle.table_store.specs.Room.{Station}
use Rattle.script_source.specs.Script.{lines_of}
use Rattle.shell.specs.Script.{texts_of, AreWithin}
use Rattle.shell.specs.LineServed.{StopCounts}
use Rattle.shell.specs.ScriptServed.{entries_at, HasEnded}
use Rattle.shell.specs.Crash.{IsLastPicture}
use Rattle.shell.specs.Readable.{LeavesReadable}
use Rattle.shell.specs.Opening.{Begins, StoreStops, LeavesDisk}
use Rattle.shell.specs.Ending.{status_for, damaged_for, without_store, stopped_with}
use Rattle.shell.specs.declared.outcomes.Outcome.{Outcome}
use Rattle.shell.specs.declared.ending.Ending.{Ending}

-- The script was served over this store, and the status tells how that ended.
pub record ServesScript (first : HostState) (start : Station) (outcome : Outcome) (now : HostState) : Type 0 where
  pub ending : Result Ending Stop
  pub status : outcome.status ≡ status_for ending
  pub damaged : outcome.damaged ≡ damaged_for ending
  pub keeps : Keeps first now
  pub ended : IsTrue first.is_faithful → HasEnded ending first start outcome.lines outcome.history (option_to_list outcome.doubt) now
  pub stops : IfErr ending (λ stop. StopCounts stop first now)
  -- for want of room, of any host: the last call heard or said
  pub full : IfErr ending (λ stop. stop ≡ Full → IsOfScript now.last)
  pub rests : IsTrue first.is_honest → AllSettled first → OnOk ending (AllSettled now)

-- the disk is unborn still, and nothing was said
pub record IsUnbegun (said : List ℕ) (p : Picture) : Type 0 where
  pub unborn : IsUnbornDisk p.image
  pub said_is : p.said ≡ said

-- What a crash may leave: the tables after some of the lines, and before that with --init an unborn disk.
abbrev pub MayBeLeft : Bool → Tables → List (List ℕ) → ℕ → List ℕ → Picture → Type 0
MayBeLeft false tables texts tried said p = IsLastPicture tables texts tried said p
MayBeLeft true tables texts tried said p = IsUnbegun said p ⊎ IsLastPicture tables texts tried said p

-- Each crash since the first moment leaves the tables after some of these lines, which are all that gave the history and what is in doubt.
pub record LeavesLines (init : Bool) (first : HostState) (tables : Tables) (outcome : Outcome) (now : HostState) : Type 0 where
  pub tried : ℕ
  pub within : AreWithin (lines_of first.script) tried
  pub all : outcome.history ++ option_to_list outcome.doubt ≡ entries_at tried (texts_of first.script) tables
  pub leaves : LeavesOnly (MayBeLeft init tables (texts_of first.script) tried first.said) first now

-- a store was there, or was made, and its script was served
pub record HasStore (init : Bool) (first : HostState) (outcome : Outcome) (now : HostState) : Type 0 where
  pub start : Station
  pub begins : IsTrue first.is_faithful → Begins init first.files start
  pub serves : ServesScript first start outcome now
  pub crash : IsTrue first.is_honest → AllSettled first → LeavesLines init first start.tables outcome now
  pub readable : LeavesReadable init first now

-- no store was opened or made, nothing was said, and no line was heard
pub record HasNoStore (init : Bool) (first : HostState) (outcome : Outcome) (now : HostState) : Type 0 where
  pub stop : GroundStop
  pub outcome_is : outcome ≡ without_store stop
  pub stops : StoreStops init stop first now
  pub left : LeavesDisk init first now

abbrev pub RunsStore : Bool → HostState → Outcome → HostState → Type 0
RunsStore init first outcome now = HasStore init first outcome now ⊎ HasNoStore init first outcome now

-- memory was short before anything was begun
pub record HasNoMemory {H : Type 0} (outcome : Outcome) (old new : H) : Type 0 where
  pub outcome_is : outcome ≡ stopped_with NoMemory
  pub same : new ≡ old
