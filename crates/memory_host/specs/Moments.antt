-- What each change of the files or the said bytes adds to the past.
use Rattle.std.specs.Prelude.{◌≡◌, ◌⊎◌, ℕ, List, ◌∷◌, ◌++◌, length, take, drop, Option, None, Vec}
use Rattle.std.specs.declared.alloc.Global.{Global}
use Rattle.host_model.specs.Picture.{file_at, set_file, without_file, ChangesFile, OnBytes}
use Rattle.host_model.specs.Calls.{Puts}
use Rattle.memory_host.specs.declared.event.Written.{Written}
use Rattle.memory_host.specs.declared.event.Event.{Event}
use Rattle.memory_host.specs.declared.event.Event.TheVariants.{Write, Put, CutCreate, CutRemove, Sync, Say}
use Rattle.memory_host.specs.Past.{before}
use Rattle.memory_host.specs.Known.{Known}

-- one event more, and it tells what was read before
pub record Adds (event : Event) (old new : Known) : Type 0 where
  pub past : new.past ≡ event ∷ old.past
  pub undone : before event new.now ≡ old.now

-- what a write of so many bytes keeps, of which the first few are written
pub record KeepsOld (name : List ℕ) (at count landed : ℕ) (file : List ℕ) (w : Written) : Type 0 where
  pub name_is : w.name ≡ name
  pub at_is : w.at ≡ at
  pub count_is : w.count ≡ count
  pub overwritten : w.overwritten.items ≡ take landed (drop at file)
  pub length_is : w.length ≡ length file

-- in a range of so many bytes these were written
pub record AddsWrite (name : List ℕ) (at count : ℕ) (landed : List ℕ) (old new : Known) : Type 0 where
  pub w : Written
  pub name_is : w.name ≡ name
  pub at_is : w.at ≡ at
  pub count_is : w.count ≡ count
  pub adds : Adds (Write w) old new
  pub image : ChangesFile name (OnBytes (Puts at landed)) old.now.image new.now.image
  pub said : new.now.said ≡ old.now.said

-- the file became this one
pub record AddsPut (name : List ℕ) (file : Option (List ℕ)) (old new : Known) : Type 0 where
  pub was : Option (Vec ℕ Global)
  pub adds : Adds (Put name was) old new
  pub image : new.now.image ≡ set_file old.now.image name file
  pub said : new.now.said ≡ old.now.said

-- a crash fell into a call that was to make the file
pub record AddsCutCreate (name : List ℕ) (old new : Known) : Type 0 where
  pub past : new.past ≡ CutCreate name ∷ old.past
  pub same : new.now ≡ old.now

-- a crash fell into a call that took the file out
pub record AddsCutRemove (name : List ℕ) (old new : Known) : Type 0 where
  pub was : Vec ℕ Global
  pub adds : Adds (CutRemove name was) old new
  pub image : new.now.image ≡ without_file old.now.image name
  pub said : new.now.said ≡ old.now.said

-- so it is, where the file was there
abbrev pub CutsRemove : List ℕ → Known → Known → Type 0
CutsRemove name old new = AddsCutRemove name old new ⊎ (new ≡ old) × (file_at old.now.image name ≡ None)

pub record AddsSync (name : List ℕ) (old new : Known) : Type 0 where
  pub past : new.past ≡ Sync name ∷ old.past
  pub same : new.now ≡ old.now

pub record AddsSay (bytes : List ℕ) (old new : Known) : Type 0 where
  pub adds : Adds (Say (length bytes)) old new
  pub image : new.now.image ≡ old.now.image
  pub said : new.now.said ≡ old.now.said ++ bytes
