-- Which picture each pick leaves.
use Rattle.std.specs.Prelude.{◌||◌, ℕ, Bool, false, cond, List, [], ◌∷◌, replicate}
use Rattle.std.specs.Option.{option_map}
use Rattle.std.specs.Ordering.{nat_cmp}
use Rattle.std.specs.Cmp.Lexicographic.{slice_cmp}
use Rattle.std.specs.BTreeMap.{is_at}
use Rattle.host_model.specs.Picture.{Image, Picture, file_at, set_file, with_file}
use Rattle.host_model.specs.Calls.{overlaid}
use Rattle.memory_host.specs.declared.event.Written.{Written}
use Rattle.memory_host.specs.declared.event.Event.{Event}
use Rattle.memory_host.specs.declared.event.Event.TheVariants.{Write, Put, CutCreate, CutRemove, Sync, Say}
use Rattle.memory_host.specs.declared.pick.Pick.{Pick}
use Rattle.memory_host.specs.declared.pick.Pick.TheVariants.{Kept, Lost, Ones}
use Rattle.memory_host.specs.Past.{before}
use Rattle.memory_host.specs.Known.{Known}

abbrev pub is_named : List ℕ → List ℕ → Bool
is_named name other = is_at (slice_cmp nat_cmp name) other

-- what an unsynced write leaves of a file: the file before it, or ones in its range
abbrev pub nothing : Written → List ℕ → List ℕ
nothing w file = file

abbrev pub ones : Written → List ℕ → List ℕ
ones w file = overlaid file w.at (replicate w.count 1)

-- one file by this rule
abbrev pub refilled : (Written → List ℕ → List ℕ) → Written → Image → Image
refilled rule w image = set_file image w.name (option_map (rule w) (file_at image w.name))

-- Each file as at its last sync, or as it was made since, and then the unsynced writes by the rule.
-- The settled names are those that were synced or made later.
abbrev pub unsynced : (Written → List ℕ → List ℕ) → (List ℕ → Bool) → List Event → Picture → Image
unsynced rule settled [] now = now.image
unsynced rule settled (Write w ∷ es) now = cond (settled w.name) (set_file (unsynced rule settled es (before (Write w) now)) w.name (file_at now.image w.name)) (refilled rule w (unsynced rule settled es (before (Write w) now)))
unsynced rule settled (Put name was ∷ es) now = set_file (unsynced rule settled es (before (Put name was) now)) name (file_at now.image name)
unsynced rule settled (CutCreate name ∷ es) now = unsynced rule settled es now
unsynced rule settled (CutRemove name was ∷ es) now =
    cond (settled name) (set_file (unsynced rule settled es (before (CutRemove name was) now)) name (file_at now.image name)) (unsynced rule settled es (before (CutRemove name was) now))
unsynced rule settled (Sync name ∷ es) now = unsynced rule (λ other. is_named name other || settled other) es now
unsynced rule settled (Say count ∷ es) now = unsynced rule settled es (before (Say count) now)

-- what is read, with the create done that the crash fell into
abbrev pub all_landed : List Event → Picture → Image
all_landed (CutCreate name ∷ es) now = with_file now.image name []
all_landed _ now = now.image

abbrev pub picked : Pick → Known → Image
picked Kept k = all_landed k.past k.now
picked Lost k = unsynced nothing (λ _. false) k.past k.now
picked Ones k = unsynced ones (λ _. false) k.past k.now
