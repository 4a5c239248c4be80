-- What is read now, with the past.
use Rattle.std.specs.Prelude.{◌≡◌, ℕ, None, List, [], ◌∷◌, refl}
use Rattle.std.specs.Coded.{Coded, code_by, coded×, coded_ℕ, coded_list}
use Rattle.host_model.specs.Picture.{Image, Picture, file_at}
use Rattle.host_model.specs.Calls.{TearsFile, Reaches}
use Rattle.memory_host.specs.declared.event.Written.{Written}
use Rattle.memory_host.specs.declared.event.Event.{Event}
use Rattle.memory_host.specs.declared.event.Event.TheVariants.{Write, Put, CutCreate, CutRemove, Sync, Say}
use Rattle.memory_host.specs.Files.{image_code}
use Rattle.memory_host.specs.Past.{before}

-- what is read, and the events of the past, of which the newest comes first
pub record Known : Type 0 where
  pub now : Picture
  pub past : List Event

-- it is stored as the tuple of its parts
abbrev pub known_code : Coded Event → Coded Known
known_code event =
    code_by (Image × (List ℕ × List Event)) (coded× image_code (coded× (coded_list coded_ℕ) (coded_list event))) (λ k. (k.now.image, (k.now.said, k.past))) (λ p. record { now = record { image = p.0; said = p.1.0 }; past = p.1.1 }) (λ _. refl)

-- the write changed its range alone, which began in the file
pub record Wrote (w : Written) (was now : Picture) : Type 0 where
  pub there : Reaches was.image w.name w.at
  pub torn : TearsFile w.name w.at w.count was now

-- each write was one, and what a crash took out is not there
abbrev pub IsRun : List Event → Picture → Type 0
IsRun [] now = Unit {0}
IsRun (Write w ∷ es) now = Wrote w (before (Write w) now) now × IsRun es (before (Write w) now)
IsRun (Put name was ∷ es) now = IsRun es (before (Put name was) now)
IsRun (CutCreate name ∷ es) now = IsRun es now
IsRun (CutRemove name was ∷ es) now = (file_at now.image name ≡ None) × IsRun es (before (CutRemove name was) now)
IsRun (Sync name ∷ es) now = IsRun es now
IsRun (Say count ∷ es) now = IsRun es (before (Say count) now)
