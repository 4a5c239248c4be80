-- How far the unsynced writes are taken back, file by file.
use Rattle.std.specs.Prelude.{◌≡◌, ℕ, Bool, cond, List, [], ◌∷◌, Option, Some}
use Rattle.std.specs.Option.{option_map}
use Rattle.host_model.specs.Picture.{Image, file_at}
use Rattle.memory_host.specs.declared.event.Written.{Written}
use Rattle.memory_host.specs.declared.event.Event.{Event}
use Rattle.memory_host.specs.declared.event.Event.TheVariants.{Write, Put, CutCreate, CutRemove, Sync, Say}
use Rattle.memory_host.specs.Past.{taken_back}
use Rattle.memory_host.specs.Crash.{is_named}

-- one file, of which the newest events are these
abbrev pub unsynced_of : (Written → List ℕ → List ℕ) → List ℕ → List Event → Option (List ℕ) → Option (List ℕ)
unsynced_of rule q [] f = f
unsynced_of rule q (Write w ∷ es) f = cond (is_named w.name q) (option_map (rule w) (unsynced_of rule q es (option_map (taken_back w) f))) (unsynced_of rule q es f)
unsynced_of rule q (Put name was ∷ es) f = cond (is_named name q) f (unsynced_of rule q es f)
unsynced_of rule q (CutCreate name ∷ es) f = unsynced_of rule q es f
unsynced_of rule q (CutRemove name was ∷ es) f = cond (is_named name q) (unsynced_of rule q es (Some was.items)) (unsynced_of rule q es f)
unsynced_of rule q (Sync name ∷ es) f = cond (is_named name q) f (unsynced_of rule q es f)
unsynced_of rule q (Say count ∷ es) f = unsynced_of rule q es f

-- one file after these writes by the rule, of which the newest comes first
abbrev pub filled : (Written → List ℕ → List ℕ) → List ℕ → List Written → Option (List ℕ) → Option (List ℕ)
filled rule q [] f = f
filled rule q (w ∷ ws) f = cond (is_named w.name q) (option_map (rule w) (filled rule q ws f)) (filled rule q ws f)

-- one file, of which the newest events were taken back, and these are left
abbrev pub here_of : (Written → List ℕ → List ℕ) → List ℕ → (List ℕ → Bool) → Image → List Event → List Written → Option (List ℕ)
here_of rule q settled files es taken = filled rule q taken (cond (settled q) (file_at files q) (unsynced_of rule q es (file_at files q)))

-- the event is taken back, whatever came before it
abbrev pub TakesBack : Event → (List ℕ → Bool) → Image → List Written → (List ℕ → Bool) → Image → List Written → Type 0
TakesBack event settled files taken settled' files' taken' =
    (rule : Written → List ℕ → List ℕ) (es : List Event) (q : List ℕ) → here_of rule q settled files (event ∷ es) taken ≡ here_of rule q settled' files' es taken'
