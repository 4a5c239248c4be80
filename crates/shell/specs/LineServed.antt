-- What the serving of one line does.
use Rattle.std.specs.Prelude.{◌≡◌, ◌⊎◌, ℕ, List, [], ◌++◌, take, Some, None, Result, IsTrue, IfErr, IfOk, OnOk, Option}
use Rattle.host_model.specs.Picture.{Picture}
use Rattle.host_model.specs.State.{HostState}
use Rattle.host_model.specs.Calls.{Keeps, IsQuiet, Faulted}
use Rattle.host_model.specs.Kinds.{IsOfScript}
use Rattle.host_model.specs.Leaves.{LeavesOnly, Shows, AllSettled}
use Rattle.host_model.specs.declared.call.HostCall.{HostCall}
use Rattle.host_model.specs.declared.call.HostCall.TheVariants.{Sync}
use Rattle.host_model.specs.declared.fault.HostFault.TheVariants.{Disk, Source, Sink, Memory}
use Rattle.host_model.specs.declared.fault.Stop.{Stop}
use Rattle.host_model.specs.declared.fault.Stop.TheVariants.{Host, Damaged, Full, NoMemory}
use Rattle.node_store.specs.Image.{IsStored}
use Rattle.script_words.specs.declared.line.Line.{Line}
use Rattle.script_words.specs.declared.reply.Answer.{Answer}
use Rattle.table_store.specs.Tables.{Tables}
use Rattle.table_store.specs.Room.{Station}
use Rattle.table_store.specs.Kept.{SaysTables}
use Rattle.table_store.specs.StoreValue.{StoreValue, IsUnasked, station_of}
use Rattle.shell.specs.Serving.{answer_to, tables_after, entries_of, reply_to}
use Rattle.shell.specs.Walk.{Steps, LacksRoom}
use Rattle.shell.specs.Readable.{StaysReadable}

-- over a faithful host the image that is read is the store's, and says just its tables
pub record IsSure (store : StoreValue) (state : HostState) : Type 0 where
  pub stored : IsTrue state.is_faithful → IsStored store.nodes state.files
  pub says : IsTrue state.is_faithful → SaysTables state.files store.tables

-- A crash while the line is served leaves the tables before it and what was said before it, or the tables after it and a front of its reply.
pub record IsBefore (tables : Tables) (said : List ℕ) (p : Picture) : Type 0 where
  pub says : SaysTables p.image tables
  pub said_is : p.said ≡ said

pub record IsBehind (tables : Tables) (said reply : List ℕ) (p : Picture) : Type 0 where
  pub says : SaysTables p.image tables
  pub count : ℕ
  pub said_is : p.said ≡ said ++ take count reply

abbrev pub IsLinePicture : ℕ → Line → Tables → List ℕ → Picture → Type 0
IsLinePicture number line tables said p = IsBefore tables said p ⊎ IsBehind (tables_after line tables) said (reply_to number line tables) p

-- ---- why a line stops

-- before anything was done: there is no room, or no memory
abbrev pub IsEarlyStop : Stop → Line → Station → Type 0
IsEarlyStop (Host fault) line station = ⊥
IsEarlyStop (Damaged name) line station = ⊥
IsEarlyStop Full line station = LacksRoom line station
IsEarlyStop NoMemory line station = Unit {0}

-- inside a commit
abbrev pub IsCommitStop : Stop → Type 0
IsCommitStop (Host Disk) = Unit {0}
IsCommitStop (Host Source) = ⊥
IsCommitStop (Host Sink) = ⊥
IsCommitStop (Host Memory) = Unit {0}
IsCommitStop (Damaged name) = ⊥
IsCommitStop Full = ⊥
IsCommitStop NoMemory = ⊥

-- while a reply is spelled or said
abbrev pub IsReplyStop : Stop → Type 0
IsReplyStop (Host Disk) = ⊥
IsReplyStop (Host Source) = ⊥
IsReplyStop (Host Sink) = Unit {0}
IsReplyStop (Host Memory) = Unit {0}
IsReplyStop (Damaged name) = ⊥
IsReplyStop Full = ⊥
IsReplyStop NoMemory = Unit {0}

-- a fault of the host is counted, and the last call is the one that failed; and none other than its own faults, want of room and of memory comes
abbrev pub StopCounts : Stop → HostState → HostState → Type 0
StopCounts (Host fault) before now = Faulted fault before now
StopCounts (Damaged name) before now = ⊥
StopCounts Full before now = Unit {0}
StopCounts NoMemory before now = Unit {0}

-- the host was asked nothing: it is as it was, at the same moment
pub record IsUnchanged (before now : HostState) : Type 0 where
  pub files : now.files ≡ before.files
  pub said : now.said ≡ before.said
  pub script : now.script ≡ before.script
  pub faults : now.faults ≡ before.faults
  pub found : now.before ≡ before.before
  pub last : now.last ≡ before.last
  pub moment : now.moment ≡ before.moment

-- the last call heard or said, or made the changes of a line lasting
abbrev pub IsLastOfWork : Option HostCall → Type 0
IsLastOfWork call = IsOfScript call ⊎ (call ≡ Some Sync)

-- ---- where it stops

-- the line did nothing, and asked nothing of the host
pub record DidNothing (stop : Stop) (line : Line) (old new : StoreValue) (before now : HostState) : Type 0 where
  pub why : IsEarlyStop stop line (station_of old)
  pub history : new.history ≡ old.history
  pub doubt : new.doubt ≡ []
  pub same : IsUnchanged before now
  pub said : now.said ≡ before.said
  pub says : SaysTables now.files old.tables
  pub leaves : IsTrue before.is_honest → AllSettled before → LeavesOnly (IsBefore old.tables before.said) before now

-- its commit may have been made
pub record IsInDoubt (stop : Stop) (number : ℕ) (line : Line) (old new : StoreValue) (before now : HostState) : Type 0 where
  pub why : IsCommitStop stop
  pub history : new.history ≡ old.history
  pub doubt : new.doubt ≡ entries_of number line old.tables
  pub said : now.said ≡ before.said
  pub says : SaysTables now.files old.tables ⊎ SaysTables now.files (tables_after line old.tables)

-- it did its work, and its reply was not said whole
pub record IsUnreported (stop : Stop) (number : ℕ) (line : Line) (old new : StoreValue) (before now : HostState) : Type 0 where
  pub why : IsReplyStop stop
  pub steps : Steps line (station_of old) (station_of new)
  pub history : new.history ≡ old.history ++ entries_of number line old.tables
  pub doubt : new.doubt ≡ []
  pub count : ℕ
  pub said : now.said ≡ before.said ++ take count (reply_to number line old.tables)
  pub says : SaysTables now.files (tables_after line old.tables)
  pub call : IsOfScript before.last → IsLastOfWork now.last

abbrev pub LineHalts : Stop → ℕ → Line → StoreValue → StoreValue → HostState → HostState → Type 0
LineHalts stop number line old new before now = DidNothing stop line old new before now ⊎ IsInDoubt stop number line old new before now ⊎ IsUnreported stop number line old new before now

-- ---- one line

-- What a line asks for is done, and its answer is still to be said.
pub record DoesLine (number : ℕ) (line : Line) (result : Result (Option Answer) Stop) (old new : StoreValue) (before now : HostState) : Type 0 where
  pub quiet : IsQuiet before now
  pub answer : IfOk result (λ answer. answer ≡ answer_to line old.tables)
  pub running : OnOk result (new.stop ≡ None)
  pub sure : OnOk result (IsSure new now)
  pub doubt : OnOk result (new.doubt ≡ [])
  pub steps : OnOk result (Steps line (station_of old) (station_of new))
  pub history : OnOk result (new.history ≡ old.history ++ entries_of number line old.tables)
  pub halts : IsTrue before.is_faithful → IfErr result (λ stop. DidNothing stop line old new before now ⊎ IsInDoubt stop number line old new before now)
  pub stops : IfErr result (λ stop. StopCounts stop before now)
  -- for want of room or memory nothing is asked of any host
  pub unasked : IfErr result (λ stop. IsUnasked stop → IsUnchanged before now)
  -- a line that has no answer asks nothing either
  pub blank : IfOk result (λ answer. answer ≡ None → IsUnchanged before now)
  -- and one that is answered asked nothing, or made its changes lasting by its last call
  pub call : OnOk result (IsUnchanged before now ⊎ (now.last ≡ Some Sync))
  pub readable : StaysReadable before now
  pub leaves : IsTrue before.is_honest → AllSettled before → LeavesOnly (Shows (λ image. SaysTables image old.tables ⊎ SaysTables image (tables_after line old.tables)) before.said) before now
  pub rests : IsTrue before.is_honest → AllSettled before → OnOk result (AllSettled now)

pub record ServesLine (number : ℕ) (line : Line) {T : Type 0} (result : Result T Stop) (old new : StoreValue) (before now : HostState) : Type 0 where
  pub keeps : Keeps before now
  pub script : IsTrue before.is_faithful → now.script ≡ before.script
  pub running : OnOk result (new.stop ≡ None)
  pub sure : OnOk result (IsSure new now)
  pub doubt : OnOk result (new.doubt ≡ [])
  pub steps : OnOk result (Steps line (station_of old) (station_of new))
  pub history : OnOk result (new.history ≡ old.history ++ entries_of number line old.tables)
  pub said : IsTrue before.is_faithful → OnOk result (now.said ≡ before.said ++ reply_to number line old.tables)
  pub halts : IsTrue before.is_faithful → IfErr result (λ stop. LineHalts stop number line old new before now)
  pub stops : IfErr result (λ stop. StopCounts stop before now)
  -- a line that lacks room asks nothing of any host
  pub full : IfErr result (λ stop. stop ≡ Full → IsUnchanged before now)
  -- where the last call before the line heard or said, so does the last one behind it
  pub call : IsOfScript before.last → OnOk result (IsOfScript now.last)
  pub readable : StaysReadable before now
  pub leaves : IsTrue before.is_honest → AllSettled before → LeavesOnly (IsLinePicture number line old.tables before.said) before now
  pub rests : IsTrue before.is_honest → AllSettled before → OnOk result (AllSettled now)
