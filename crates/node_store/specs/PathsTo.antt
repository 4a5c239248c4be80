-- Finite maps from paths.
use Rattle.std.specs.Prelude.{ℕ, List, [], ◌∷◌, Option, Some, None}
use Rattle.std.specs.declared.cmp.Ordering.{Ordering}
use Rattle.std.specs.Ordering.{nat_cmp}
use Rattle.std.specs.Cmp.Lexicographic.{slice_cmp}
use Rattle.std.specs.FinMap as map

-- the order of paths, by their bytes
abbrev pub path_cmp : List ℕ → List ℕ → Ordering
path_cmp = slice_cmp nat_cmp

abbrev pub PathsTo : Type 0 → Type 0
PathsTo V = map.FinMap path_cmp V

-- the map with this value at the path, or with nothing there
abbrev pub with_entry : {V : Type 0} → PathsTo V → List ℕ → Option V → PathsTo V
with_entry whole path None = map.remove whole path
with_entry whole path (Some value) = map.insert whole path value

abbrev pub with_entries : {V : Type 0} → PathsTo V → List (List ℕ × Option V) → PathsTo V
with_entries whole [] = whole
with_entries whole (e ∷ es) = with_entry (with_entries whole es) e.0 e.1

-- the map with these changes over it
abbrev pub overlaid : {V : Type 0} → PathsTo V → PathsTo (Option V) → PathsTo V
overlaid whole changes = with_entries whole (map.entries changes)
