-- What can still be read as a run goes on.
use Rattle.std.specs.Prelude.{◌⊎◌, Bool, true, false, IsTrue}
use Rattle.host_model.specs.Picture.{Image}
use Rattle.host_model.specs.State.{HostState}
use Rattle.host_model.specs.Leaves.{LeavesOnly, AllSettled}
use Rattle.store_layout.specs.NewStore.{IsUnbornDisk}
use Rattle.store_meaning.specs.Readable.{IsReadable}

-- an image that could be read still can, and so can all that a crash leaves of it
pub record StaysReadable (old new : HostState) : Type 0 where
  pub tried : IsTrue old.is_faithful → IsReadable old.files → IsReadable new.files
  pub leaves : IsTrue old.is_honest → AllSettled old → IsReadable old.files → LeavesOnly (λ p. IsReadable p.image) old new

-- ---- over a whole run

-- the image can be read, or with --init is unborn
abbrev pub IsStart : Bool → Image → Type 0
IsStart false image = IsReadable image
IsStart true image = IsUnbornDisk image

-- the image can be read, or with --init is unborn still
abbrev pub IsLeft : Bool → Image → Type 0
IsLeft false image = IsReadable image
IsLeft true image = IsUnbornDisk image ⊎ IsReadable image

-- What could be read still can, and with --init what was unborn can be read or is unborn still; and so it is with all that a crash leaves.
pub record LeavesReadable (init : Bool) (first now : HostState) : Type 0 where
  pub tried : IsTrue first.is_faithful → IsStart init first.files → IsLeft init now.files
  pub leaves : IsTrue first.is_honest → AllSettled first → IsStart init first.files → LeavesOnly (λ p. IsLeft init p.image) first now
