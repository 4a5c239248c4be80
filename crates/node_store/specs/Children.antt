-- The paths right below a path.
use Rattle.std.specs.Prelude.{ℕ, ◌==◌, ◌&&◌, nat_eq, not, Bool, List, [], ◌∷◌, ◌++◌, length, drop, filter}
use Rattle.std.specs.List.{list_any, starts_with}

-- it has some bytes, and `/` isn't one of them
abbrev pub is_single_name : List ℕ → Bool
is_single_name name = not (length name == 0) && not (list_any (λ byte. byte == 47) name)

-- the path is these bytes and a name
abbrev pub is_named_behind : List ℕ → List ℕ → Bool
is_named_behind front path = starts_with nat_eq path front && is_single_name (drop (length front) path)

-- the path is the parent, `/` and a name
abbrev pub is_child : List ℕ → List ℕ → Bool
is_child parent path = is_named_behind (parent ++ 47 ∷ []) path

abbrev pub children_of : List ℕ → List (List ℕ) → List (List ℕ)
children_of parent paths = filter (is_child parent) paths
