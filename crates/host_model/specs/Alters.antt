-- A durable change of some files, over one call or many, said of whole images.
use Rattle.std.specs.Prelude.{◌≡◌, ℕ, List, Result, IsTrue, OnOk}
use Rattle.host_model.specs.Picture.{Image, Picture, ImageStep, file_at}
use Rattle.host_model.specs.State.{HostState}
use Rattle.host_model.specs.Moves.{Moves}
use Rattle.host_model.specs.Calls.{IsQuiet}
use Rattle.host_model.specs.Leaves.{AllSettled}

-- a crash leaves of these files what a read gives
pub record AreSettled (own : List ℕ → Type 0) (state : HostState) : Type 0 where
  pub each : (p : Picture) → state.may_leave p → (name : List ℕ) → own name → file_at p.image name ≡ file_at state.files name

-- The files alone change. A fault or a crash on the way leaves an image changed by `during`. At Ok it is changed by `after`, and is on the disk.
-- The promise on crashes holds where no write to these files was pending.
pub record Alters (own : List ℕ → Type 0) (during after : Image → Image → Type 0) {T E : Type 0} (result : Result T E) (old new : HostState) : Type 0 where
  pub quiet : IsQuiet old new
  pub tried : IsTrue old.is_faithful → during old.files new.files
  pub done : IsTrue old.is_faithful → OnOk result (after old.files new.files)
  pub moves : IsTrue old.is_honest → AreSettled own old → Moves (ImageStep during) (ImageStep during) old new
  pub settled : IsTrue old.is_honest → OnOk result (AreSettled own new)
  -- where nothing else was pending, nothing is
  pub rests : IsTrue old.is_honest → AllSettled old → OnOk result (AllSettled new)
