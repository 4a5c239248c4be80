-- The headline: every crash leaves the plain map after a front of the history, with every operation that was reported.
use Rattle.std.specs.Prelude.{◌≡◌, ◌⊎◌, ℕ, ◌+◌, ◌≤◌, Bool, true, false, List, ◌++◌, All, Some, slice_get, option_to_list}
use Rattle.host_model.specs.Picture.{Image, Picture}
use Rattle.host_model.specs.State.{HostState}
use Rattle.host_model.specs.Calls.{Faulted}
use Rattle.host_model.specs.Leaves.{LeavesOnly}
use Rattle.host_model.specs.declared.fault.HostFault.TheVariants.{Disk, Memory}
use Rattle.script_source.specs.Script.{lines_of}
use Rattle.script_words.specs.Lines.{line_of}
use Rattle.script_words.specs.Replies.{reply_of}
use Rattle.script_words.specs.declared.line.Line.TheVariants.{Tables as ListTables}
use Rattle.script_words.specs.declared.reply.Answer.TheVariants.{Rows}
use Rattle.plain_model.specs.State.{PlainState}
use Rattle.plain_model.specs.History.{after}
use Rattle.table_store.specs.Tables.{Tables, no_tables, plain_of, plain_texts}
use Rattle.store_layout.specs.NewStore.{IsUnbornDisk}
use Rattle.table_store.specs.Kept.{IsKept, StandsFor}
use Rattle.plain_model.specs.declared.operation.Entry.{Entry}
use Rattle.shell.specs.Script.{texts_of, AreWithin}
use Rattle.shell.specs.Serving.{reply_to}
use Rattle.shell.specs.ScriptServed.{tables_at, replies_at, entries_at}
use Rattle.shell.specs.Running.{IsUnbegun}
use Rattle.shell.specs.declared.outcomes.Outcome.{Outcome}

-- the tables with which a run begins: those of the image, or with --init none on a disk that is blank or unborn
abbrev pub BeginsWith : Bool → Image → Tables → Type 0
BeginsWith false image tables = IsKept image tables
BeginsWith true image tables = IsUnbornDisk image × (tables ≡ no_tables)

-- the image stands for the plain state after these entries
pub record StandsAfter (state : PlainState) (entries : List Entry) (image : Image) : Type 0 where
  pub last : PlainState
  pub applied : after entries state ≡ Some last
  pub stands : StandsFor image last

-- the replies to all lines up to that of the entry begin what was said in this run
pub record IsReported (first : HostState) (tables : Tables) (p : Picture) (entry : Entry) : Type 0 where
  pub more : List ℕ
  pub said_is : p.said ≡ first.said ++ replies_at entry.line (texts_of first.script) tables ++ more

-- the image stands for the plain state after a front of these entries, and none behind it was reported
pub record StandsAfterFront (first : HostState) (tables : Tables) (entries : List Entry) (p : Picture) : Type 0 where
  pub front : List Entry
  pub rest : List Entry
  pub parts : entries ≡ front ++ rest
  pub stands : StandsAfter (plain_of tables) front p.image
  pub unreported : All (λ entry. IsReported first tables p entry → ⊥) rest

-- with --init the disk may also be unborn still, and then nothing was said
abbrev pub MayStand : Bool → HostState → Tables → List Entry → Picture → Type 0
MayStand false first tables entries p = StandsAfterFront first tables entries p
MayStand true first tables entries p = IsUnbegun first.said p ⊎ StandsAfterFront first tables entries p

-- the entries are those of lines of the script, no two have the same source, and the plain state refuses none
pub record AreOfLines (first : HostState) (tables : Tables) (entries : List Entry) : Type 0 where
  pub lines : ℕ
  pub within : AreWithin (lines_of first.script) lines
  pub are : entries ≡ entries_at lines (texts_of first.script) tables
  pub apart : (i j : ℕ) (one two : Entry) → slice_get entries i ≡ Some one → slice_get entries j ≡ Some two → one.source ≡ two.source → i ≡ j
  pub last : PlainState
  pub applied : after entries (plain_of tables) ≡ Some last

-- an entry is in doubt only after a fault of the disk or of the host's memory, which the last call answered, and none of the line's reply was said
pub record IsRightlyInDoubt (first : HostState) (tables : Tables) (outcome : Outcome) (now : HostState) (entry : Entry) : Type 0 where
  pub cause : ((outcome.status ≡ 4) × Faulted Disk first now) ⊎ ((outcome.status ≡ 7) × Faulted Memory first now)
  pub line_is : entry.line ≡ outcome.lines
  pub before : ℕ
  pub last : outcome.lines ≡ before + 1
  pub unsaid : now.said ≡ first.said ++ replies_at before (texts_of first.script) tables

-- what was committed, and what may have been
abbrev pub all_entries : Outcome → List Entry
all_entries outcome = outcome.history ++ option_to_list outcome.doubt

-- What a crash leaves, at every moment of a run and behind its end.
pub record Headline (init : Bool) (first : HostState) (tables : Tables) (outcome : Outcome) (now : HostState) : Type 0 where
  pub every_moment : LeavesOnly (MayStand init first tables (all_entries outcome)) first now
  pub end : outcome.status ≡ 0 → (p : Picture) → now.may_leave p → StandsAfter (plain_of tables) outcome.history p.image

-- ---- where nothing crashes

-- the image stands for the plain state after the history, or after that and the entry in doubt
abbrev pub StandsNow : PlainState → Outcome → Image → Type 0
StandsNow state outcome image = StandsAfter state outcome.history image ⊎ StandsAfter state (all_entries outcome) image

-- with --init the disk may also be unborn still
abbrev pub MayStandNow : Bool → PlainState → Outcome → Image → Type 0
MayStandNow false state outcome image = StandsNow state outcome image
MayStandNow true state outcome image = IsUnbornDisk image ⊎ StandsNow state outcome image

-- the line behind so many is answered with the rows of the plain state after the entries before it
pub record ShowsPlain (first : HostState) (tables : Tables) (count : ℕ) (text : List ℕ) : Type 0 where
  pub state : PlainState
  pub applied : after (entries_at count (texts_of first.script) tables) (plain_of tables) ≡ Some state
  pub reply : reply_to (count + 1) (line_of text) (tables_at count (texts_of first.script) tables) ≡ reply_of (count + 1) (Rows (plain_texts state))

-- What reads give at the end of a run, what it committed, and what its queries gave.
pub record MeetsPlain (init : Bool) (first : HostState) (tables : Tables) (outcome : Outcome) (now : HostState) : Type 0 where
  pub stands : MayStandNow init (plain_of tables) outcome now.files
  pub history : AreOfLines first tables (all_entries outcome)
  pub doubt : (entry : Entry) → outcome.doubt ≡ Some entry → IsRightlyInDoubt first tables outcome now entry
  pub queries : (count : ℕ) (text : List ℕ) → count + 1 ≤ outcome.lines → slice_get (texts_of first.script) count ≡ Some text → line_of text ≡ ListTables → ShowsPlain first tables count text
