-- What the calls of a cluster make of the files.
use Rattle.std.specs.Prelude.{IsTrue}
use Rattle.host_model.specs.Picture.{Image}
use Rattle.host_model.specs.State.{HostState}
use Rattle.host_model.specs.Calls.{IsQuiet}
use Rattle.host_model.specs.Leaves.{LeavesOnly, Shows}
use Rattle.plain_model.specs.State.{PlainState}
use Rattle.store_meaning.specs.Kept.{IsKept}

-- what was kept is so still, and stands for the same plain state
abbrev pub KeepsState : Image → Image → Type 0
KeepsState old new = (plain : PlainState) → IsKept old plain → IsKept new plain

-- Nothing is said or heard, and what was kept is so still, now and in whatever a crash leaves, and stands for the same plain state.
pub record KeepsStateFrom (old new : HostState) : Type 0 where
  pub quiet : IsQuiet old new
  pub tried : IsTrue old.is_faithful → KeepsState old.files new.files
  pub leaves : IsTrue old.is_honest → LeavesOnly (Shows (KeepsState old.files) old.said) old new
