-- How far a script was served, and how that ended.
use Rattle.std.specs.Prelude.{◌≡◌, ◌⊎◌, ℕ, ◌+◌, List, [], ◌++◌, take, length, slice_get, codes, Some, Result, Ok, Err}
use Rattle.script_words.specs.Replies.{numbered}
use Rattle.script_words.specs.Lines.{line_of}
use Rattle.host_model.specs.State.{HostState}
use Rattle.host_model.specs.Kinds.{IsOfScript}
use Rattle.host_model.specs.declared.fault.HostFault.TheVariants.{Disk, Source, Sink, Memory}
use Rattle.host_model.specs.declared.fault.Stop.{Stop}
use Rattle.host_model.specs.declared.fault.Stop.TheVariants.{Host, Damaged, Full, NoMemory}
use Rattle.script_source.specs.Script.{lines_of}
use Rattle.table_store.specs.Tables.{Tables}
use Rattle.table_store.specs.Room.{Station}
use Rattle.table_store.specs.Kept.{SaysTables}
use Rattle.plain_model.specs.declared.operation.Entry.{Entry}
use Rattle.shell.specs.Serving.{tables_over, replies_over, entries_over, entries_of, reply_to}
use Rattle.shell.specs.Script.{texts_of, AreWithin, IsOver}
use Rattle.shell.specs.Walk.{Walks}
use Rattle.shell.specs.LineServed.{IsLastOfWork, IsEarlyStop, IsCommitStop, IsReplyStop}
use Rattle.shell.specs.declared.ending.Ending.{Ending}
use Rattle.shell.specs.declared.ending.Ending.TheVariants.{ScriptEnd, NoLine}

-- the tables, the replies and the entries after so many lines
abbrev pub tables_at : ℕ → List (List ℕ) → Tables → Tables
tables_at count texts tables = tables_over (take count texts) tables

abbrev pub replies_at : ℕ → List (List ℕ) → Tables → List ℕ
replies_at count texts tables = replies_over 1 (take count texts) tables

abbrev pub entries_at : ℕ → List (List ℕ) → Tables → List Entry
entries_at count texts tables = entries_over 1 (take count texts) tables

-- So many lines did their work: their entries are the history, and their tables are there.
pub record HasDone (first : HostState) (start : Station) (count : ℕ) (past : List Entry) (now : HostState) : Type 0 where
  pub within : AreWithin (lines_of first.script) count
  pub station : Station
  pub walks : Walks (take count (texts_of first.script)) start station
  pub history : past ≡ entries_at count (texts_of first.script) start.tables
  pub says : SaysTables now.files (tables_at count (texts_of first.script) start.tables)

-- the replies to so many lines were said, and no more
abbrev pub HasReplied : HostState → Tables → ℕ → HostState → Type 0
HasReplied first tables count now = now.said ≡ first.said ++ replies_at count (texts_of first.script) tables

-- and then these bytes
abbrev pub HasSaid : HostState → Tables → ℕ → List ℕ → HostState → Type 0
HasSaid first tables count more now = now.said ≡ first.said ++ replies_at count (texts_of first.script) tables ++ more

-- the last line that was heard, and how many stand before it
pub record LastLine (first : HostState) (lines : ℕ) : Type 0 where
  pub before : ℕ
  pub lines_are : lines ≡ before + 1
  pub within : AreWithin (lines_of first.script) lines
  pub text : List ℕ
  pub is : slice_get (texts_of first.script) before ≡ Some text

-- ---- the script came to an end

-- the whole script was served
pub record HasServedAll (first : HostState) (start : Station) (lines : ℕ) (past maybe : List Entry) (now : HostState) : Type 0 where
  pub all : lines ≡ length (lines_of first.script)
  pub heard : now.script ≡ []
  pub done : HasDone first start lines past now
  pub doubt : maybe ≡ []
  pub said : HasReplied first start.tables lines now

-- the lines before the last were served, and it is too long or one too many: of the reply to it these bytes were said
pub record HasRefused (first : HostState) (start : Station) (lines : ℕ) (past maybe : List Entry) (front : List ℕ) (now : HostState) : Type 0 where
  pub before : ℕ
  pub lines_are : lines ≡ before + 1
  pub over : IsOver (lines_of first.script) before
  pub done : HasDone first start before past now
  pub doubt : maybe ≡ []
  pub said : HasSaid first start.tables before front now

-- the script was served up to a line that is too long, or one too many
abbrev pub HasRefusedLine : HostState → Station → ℕ → List Entry → List Entry → HostState → Type 0
HasRefusedLine first start lines past maybe now = HasRefused first start lines past maybe (numbered lines (codes "no line")) now

-- ---- a stop fell into it

abbrev pub IsHearingStop : Stop → Type 0
IsHearingStop (Host Disk) = ⊥
IsHearingStop (Host Source) = Unit {0}
IsHearingStop (Host Sink) = ⊥
IsHearingStop (Host Memory) = Unit {0}
IsHearingStop (Damaged name) = ⊥
IsHearingStop Full = ⊥
IsHearingStop NoMemory = Unit {0}

-- no further line was heard
pub record StopsHearing (stop : Stop) (first : HostState) (start : Station) (lines : ℕ) (past maybe : List Entry) (now : HostState) : Type 0 where
  pub why : IsHearingStop stop
  pub done : HasDone first start lines past now
  pub doubt : maybe ≡ []
  pub said : HasReplied first start.tables lines now
  -- the last call heard or said, or nothing was heard yet
  pub call : IsOfScript now.last ⊎ (lines ≡ 0) × (now.script ≡ first.script)

-- that there is no such line wasn't said whole
pub record StopsRefusing (stop : Stop) (first : HostState) (start : Station) (lines : ℕ) (past maybe : List Entry) (now : HostState) : Type 0 where
  pub why : IsReplyStop stop
  pub count : ℕ
  pub refused : HasRefused first start lines past maybe (take count (numbered lines (codes "no line"))) now
  pub call : IsOfScript now.last

-- the last line did nothing
pub record StopsBefore (stop : Stop) (first : HostState) (start : Station) (lines : ℕ) (past maybe : List Entry) (now : HostState) : Type 0 where
  pub last : LastLine first lines
  pub done : HasDone first start last.before past now
  pub why : IsEarlyStop stop (line_of last.text) done.station
  pub doubt : maybe ≡ []
  pub said : HasReplied first start.tables last.before now
  -- the last call heard or said: the line asked nothing
  pub call : IsOfScript now.last

-- its commit may have been made: its entry is in doubt
pub record StopsInside (stop : Stop) (first : HostState) (start : Station) (lines : ℕ) (past maybe : List Entry) (now : HostState) : Type 0 where
  pub why : IsCommitStop stop
  pub last : LastLine first lines
  pub history : past ≡ entries_at last.before (texts_of first.script) start.tables
  pub doubt : maybe ≡ entries_of lines (line_of last.text) (tables_at last.before (texts_of first.script) start.tables)
  pub says : SaysTables now.files (tables_at last.before (texts_of first.script) start.tables) ⊎ SaysTables now.files (tables_at lines (texts_of first.script) start.tables)
  pub said : HasReplied first start.tables last.before now

-- it did its work, and its reply wasn't said whole
pub record StopsBehind (stop : Stop) (first : HostState) (start : Station) (lines : ℕ) (past maybe : List Entry) (now : HostState) : Type 0 where
  pub why : IsReplyStop stop
  pub last : LastLine first lines
  pub done : HasDone first start lines past now
  pub doubt : maybe ≡ []
  pub count : ℕ
  pub said : HasSaid first start.tables last.before (take count (reply_to lines (line_of last.text) (tables_at last.before (texts_of first.script) start.tables))) now
  -- nothing was asked behind the work of the line and its reply
  pub call : IsLastOfWork now.last

abbrev pub HasStopped : Stop → HostState → Station → ℕ → List Entry → List Entry → HostState → Type 0
HasStopped stop first start lines past maybe now =
    StopsHearing stop first start lines past maybe now ⊎ StopsRefusing stop first start lines past maybe now ⊎ StopsBefore stop first start lines past maybe now ⊎ StopsInside stop first start lines past maybe now ⊎ StopsBehind stop first start lines past maybe now

-- how the serving of a script ended
abbrev pub HasEnded : Result Ending Stop → HostState → Station → ℕ → List Entry → List Entry → HostState → Type 0
HasEnded (Ok ScriptEnd) = HasServedAll
HasEnded (Ok NoLine) = HasRefusedLine
HasEnded (Err stop) = HasStopped stop
