-- A durable change of one file, over one call or many.
use Rattle.std.specs.Prelude.{ℕ, List, Option, Result, IsTrue, OnOk}
use Rattle.host_model.specs.Picture.{ChangesFile, FileStep}
use Rattle.host_model.specs.State.{HostState}
use Rattle.host_model.specs.Moves.{Moves}
use Rattle.host_model.specs.Calls.{IsQuiet, IsSettled}

-- This file alone changes. A fault or a crash on the way leaves it changed by `during`. At Ok it is changed by `after`, and is on the disk.
-- The promise on crashes holds where no write to the file was pending.
pub record Stores (name : List ℕ) (during after : Option (List ℕ) → Option (List ℕ) → Type 0) {T E : Type 0} (result : Result T E) (old new : HostState) : Type 0 where
  pub quiet : IsQuiet old new
  pub tried : IsTrue old.is_faithful → ChangesFile name during old.files new.files
  pub done : IsTrue old.is_faithful → OnOk result (ChangesFile name after old.files new.files)
  pub moves : IsTrue old.is_honest → IsSettled name old → Moves (FileStep name during) (FileStep name during) old new
  pub settled : IsTrue old.is_honest → OnOk result (IsSettled name new)
