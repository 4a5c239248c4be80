-- What a crash may leave, from what is read now and the events of the past, of which the newest comes first.
use Rattle.std.specs.Prelude.{◌≡◌, ◌⊎◌, ℕ, ◌≤◌, ◌-◌, List, [], ◌∷◌, ◌++◌, length, take, drop, Option, Some, true}
use Rattle.std.specs.Option.{option_map}
use Rattle.host_model.specs.Picture.{Picture, file_at, set_file, with_file, FileStep, Becomes, MayBecome}
use Rattle.host_model.specs.Moves.{Reached}
use Rattle.host_model.specs.State.{Faults, HostState}
use Rattle.host_model.specs.declared.call.HostCall.{HostCall}
use Rattle.host_model.specs.Calls.{TearsFile, overlaid}
use Rattle.memory_host.specs.Files.{as_file}
use Rattle.memory_host.specs.declared.event.Written.{Written}
use Rattle.memory_host.specs.declared.event.Event.{Event}
use Rattle.memory_host.specs.declared.event.Event.TheVariants.{Write, Put, CutCreate, CutRemove, Sync, Say}

-- the file before the write
abbrev pub taken_back : Written → List ℕ → List ℕ
taken_back w file = take w.length (overlaid file w.at w.overwritten.items)

-- what was read before the event, from what is read after it
abbrev pub before : Event → Picture → Picture
before (Write w) p = record { image = set_file p.image w.name (option_map (taken_back w) (file_at p.image w.name)); said = p.said }
before (Put name was) p = record { image = set_file p.image name (as_file was); said = p.said }
before (CutCreate name) p = p
before (CutRemove name was) p = record { image = with_file p.image name was.items; said = p.said }
before (Sync name) p = p
before (Say count) p = record { image = p.image; said = take (length p.said - count) p.said }

-- the last so many bytes are new
pub record SaysLast (count : ℕ) (now : List ℕ) (old new : Picture) : Type 0 where
  pub image : new.image ≡ old.image
  pub said : new.said ≡ old.said ++ drop (length now - count) now

-- what a crash after the event may leave, from what it might have left before
abbrev pub Next : Event → Picture → (Picture → Type 0) → Picture → Type 0
Next (Write w) now may p = Reached may (TearsFile w.name w.at w.count) p
Next (Put name was) now may p = Reached may (FileStep name (Becomes (file_at now.image name))) p
Next (CutCreate name) now may p = Reached may (FileStep name (MayBecome (Some []))) p
Next (CutRemove name was) now may p = Reached may (FileStep name (MayBecome (file_at now.image name))) p
Next (Sync name) now may p = may p × (file_at p.image name ≡ file_at now.image name)
Next (Say count) now may p = Reached may (SaysLast count now.said) p

-- what a crash now may leave: what is read, or what follows from what it might have left before
abbrev pub May : List Event → Picture → Picture → Type 0
May [] now p = p ≡ now
May (e ∷ es) now p = (p ≡ now) ⊎ Next e now (May es (before e now)) p

-- what a crash at one of the moments from this one on might have left
abbrev pub LeftSince : List Event → Picture → ℕ → Picture → Type 0
LeftSince [] now t p = (t ≤ 0) × (p ≡ now)
LeftSince (e ∷ es) now t p = LeftSince es (before e now) t p ⊎ (t ≤ length (e ∷ es)) × May (e ∷ es) now p

abbrev pub state_of : List Event → Picture → List ℕ → Faults → Faults → Option HostCall → HostState
state_of past now script faults found last = record {
  files = now.image;
  said = now.said;
  script = script;
  faults = faults;
  before = found;
  last = last;
  moment = length past;
  may_leave = May past now;
  left_since = LeftSince past now;
  is_faithful = true;
  is_honest = true;
}
