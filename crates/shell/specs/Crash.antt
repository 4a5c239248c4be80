-- What a crash leaves of a script that is served.
use Rattle.std.specs.Prelude.{◌≡◌, ◌⊎◌, ℕ, ◌+◌, ◌≤◌, List, ◌++◌, length}
use Rattle.host_model.specs.Picture.{Picture}
use Rattle.host_model.specs.State.{HostState}
use Rattle.host_model.specs.Leaves.{LeavesOnly}
use Rattle.script_source.specs.Script.{lines_of}
use Rattle.table_store.specs.Tables.{Tables}
use Rattle.table_store.specs.Kept.{SaysTables}
use Rattle.plain_model.specs.declared.operation.Entry.{Entry}
use Rattle.shell.specs.Script.{texts_of, AreWithin}
use Rattle.shell.specs.ScriptServed.{tables_at, replies_at, entries_at}

-- The picture says the tables after some of so many lines, and no more was said than the replies to these.
-- Of the last of these lines no reply need be missing: nothing is tried behind it.
pub record IsLastPicture (tables : Tables) (texts : List (List ℕ)) (tried : ℕ) (said : List ℕ) (p : Picture) : Type 0 where
  pub done : ℕ
  pub within : done ≤ tried
  pub says : SaysTables p.image (tables_at done texts tables)
  pub quiet : (done ≡ tried) ⊎ (length p.said ≤ length said + length (replies_at done texts tables))

-- Each crash since the first moment leaves the tables after some of these lines, which are all that gave the history and what is in doubt.
pub record LeavesFronts (first : HostState) (tables : Tables) (past maybe : List Entry) (now : HostState) : Type 0 where
  pub tried : ℕ
  pub within : AreWithin (lines_of first.script) tried
  pub all : past ++ maybe ≡ entries_at tried (texts_of first.script) tables
  pub leaves : LeavesOnly (IsLastPicture tables (texts_of first.script) tried first.said) first now
