-- What the private functions that serve a script ensure.
use Rattle.std.specs.Prelude.{◌≡◌, ◌⊎◌, ℕ, ◌+◌, ◌≤◌, List, [], ◌++◌, take, drop, length, None, codes, Result, IfOk, IfErr, OnOk, IsTrue}
use Rattle.script_words.specs.Replies.{numbered}
use Rattle.host_model.specs.Picture.{Picture}
use Rattle.host_model.specs.State.{HostState}
use Rattle.host_model.specs.Calls.{Keeps}
use Rattle.host_model.specs.Kinds.{IsOfScript}
use Rattle.host_model.specs.Leaves.{LeavesOnly, AllSettled}
use Rattle.host_model.specs.declared.fault.Stop.{Stop}
use Rattle.script_source.specs.Script.{lines_of}
use Rattle.table_store.specs.Tables.{Tables}
use Rattle.table_store.specs.Room.{Station}
use Rattle.table_store.specs.Kept.{SaysTables}
use Rattle.table_store.specs.StoreValue.{StoreValue, station_of}
use Rattle.shell.specs.Script.{texts_of, AreWithin}
use Rattle.shell.specs.Walk.{Walks}
use Rattle.shell.specs.Readable.{StaysReadable}
use Rattle.shell.specs.LineServed.{IsSure, IsReplyStop, StopCounts}
use Rattle.shell.specs.ScriptServed.{tables_at, replies_at, entries_at, HasReplied}
use Rattle.shell.specs.declared.ending.Ending.{Ending}
use Rattle.shell.specs.declared.ending.Ending.TheVariants.{NoLine}

-- The picture says the tables after some of so many lines, and no more was said than the replies to these.
pub record IsScriptPicture (tables : Tables) (texts : List (List ℕ)) (count : ℕ) (said : List ℕ) (p : Picture) : Type 0 where
  pub done : ℕ
  pub within : done ≤ count
  pub says : SaysTables p.image (tables_at done texts tables)
  pub quiet : length p.said ≤ length said + length (replies_at done texts tables)

-- so many lines were served to their ends, and no others
pub record HasServed (first : HostState) (start : Station) (count : ℕ) (pending : List ℕ) (store : StoreValue) (now : HostState) : Type 0 where
  pub keeps : Keeps first now
  pub running : store.stop ≡ None
  pub sure : IsSure store now
  pub doubt : store.doubt ≡ []
  pub within : IsTrue first.is_faithful → AreWithin (lines_of first.script) count
  pub left : IsTrue first.is_faithful → lines_of (pending ++ now.script) ≡ drop count (lines_of first.script)
  pub walks : IsTrue first.is_faithful → Walks (take count (texts_of first.script)) start (station_of store)
  pub history : IsTrue first.is_faithful → store.history ≡ entries_at count (texts_of first.script) start.tables
  pub said : IsTrue first.is_faithful → HasReplied first start.tables count now
  -- the last call heard or said, or nothing is held yet
  pub call : (pending ≡ []) ⊎ IsOfScript now.last
  pub readable : StaysReadable first now
  pub leaves : IsTrue first.is_honest → AllSettled first → LeavesOnly (IsScriptPicture start.tables (texts_of first.script) count first.said) first now
  pub rests : IsTrue first.is_honest → AllSettled first → AllSettled now

-- `no line` is said, or a front of it, or there was no memory for it
pub record RefusesLine (number : ℕ) (result : Result Ending Stop) (before now : HostState) : Type 0 where
  pub keeps : Keeps before now
  pub same : IsTrue before.is_faithful → (now.files ≡ before.files) × (now.script ≡ before.script)
  pub done : IfOk result (λ ending. ending ≡ NoLine)
  pub said : IsTrue before.is_faithful → OnOk result (now.said ≡ before.said ++ numbered number (codes "no line"))
  pub tried : IsTrue before.is_faithful → (count : ℕ) × (now.said ≡ before.said ++ take count (numbered number (codes "no line")))
  pub why : IfErr result IsReplyStop
  pub call : IsOfScript before.last → IsOfScript now.last
  pub stops : IfErr result (λ stop. StopCounts stop before now)
  pub leaves : IsTrue before.is_honest → AllSettled before → LeavesOnly (λ p. p.image ≡ before.files) before now
  pub rests : IsTrue before.is_honest → AllSettled before → AllSettled now
