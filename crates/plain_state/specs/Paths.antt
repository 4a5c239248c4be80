-- The paths of nodes that begin alike.
use Rattle.std.specs.Prelude.{ℕ, nat_eq, Bool, List, filter}
use Rattle.std.specs.FinMap as map
use Rattle.std.specs.List.{starts_with}
use Rattle.node_store.specs.Nodes.{Nodes}

-- the path begins so
abbrev pub is_behind : List ℕ → List ℕ → Bool
is_behind front path = starts_with nat_eq path front

-- the paths of all nodes that begin so, in byte order
abbrev pub paths_behind : List ℕ → Nodes → List (List ℕ)
paths_behind front nodes = filter (is_behind front) (map.keys nodes)
