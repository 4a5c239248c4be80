-- The paths of nodes that begin alike.
use Rattle.std.proofs.Common.{◌≡◌, ℕ, ◌<◌, true, List, [], ◌∷◌, ◌++◌, length, take, drop, get_or, Contains, Some, is_some, refl, sym, ◌∙◌, ap}
use Rattle.std.specs.FinMap as map
use Rattle.std.specs.FinMap.{contains_key-keys}
use Rattle.std.specs.Cmp.{eq_by_cmp_equiv}
use Rattle.std.proofs.lemmas.Bool.Decides.{Decides-eqb}
use Rattle.std.proofs.lemmas.Cmp.{nat_list_cmp_total}
use Rattle.std.proofs.lemmas.Map.Views.{list_any-from_Contains}
use Rattle.std.proofs.lemmas.Slice.Eq.{starts_is}
use Rattle.row_keys.specs.RowOrder.{bytes_cmp}
use Rattle.plain_model.specs.Laws.{is_rising}
use Rattle.plain_model.proofs.LawsLemmas.{keys_rise}
use Rattle.level_rows.proofs.Membership.{Contains-filter, Contains-in_filter}
use Rattle.node_store.specs.declared.changes.Node.{Node}
use Rattle.node_store.specs.Nodes.{Nodes}
use Rattle.table_names.proofs.ListLemmas.{key_among}
use Rattle.plain_state.specs.Paths.{is_behind, paths_behind}
use Rattle.plain_state.proofs.ListLemmas.{some_of, rising_filter, stands_once}

behind_front : (front rest : List ℕ) → is_behind front (front ++ rest) ≡ true
behind_front front rest = (starts_is Decides-eqb (front ++ rest) front (is_behind front (front ++ rest)) refl).1 rest refl

-- a path that begins so, with its node
pub record IsBehind (front : List ℕ) (nodes : Nodes) (path : List ℕ) : Type 0 where
  pub rest : List ℕ
  pub place : path ≡ front ++ rest
  pub node : Node
  pub there : map.get nodes path ≡ Some node

-- each of the paths has a node
pub node_of : (front : List ℕ) (nodes : Nodes) (path : List ℕ) → Contains (paths_behind front nodes) path → IsBehind front nodes path
node_of front nodes path there =
    let both = Contains-filter (is_behind front) (map.keys nodes) path there in
    let found = some_of (map.get nodes path) (contains_key-keys nodes path ∙ list_any-from_Contains (eq_by_cmp_equiv nat_list_cmp_total) path (map.keys nodes) both.0) in
    record {
      rest = drop (length front) path;
      place = (starts_is Decides-eqb path front (is_behind front path) refl).0 both.1;
      node = found.0;
      there = found.1;
    }

-- a node that begins so is at one of the paths
pub among_behind : (front rest : List ℕ) (nodes : Nodes) (node : Node) → map.get nodes (front ++ rest) ≡ Some node → Contains (paths_behind front nodes) (front ++ rest)
among_behind front rest nodes node there = Contains-in_filter (is_behind front) (map.keys nodes) (front ++ rest) (key_among nodes (front ++ rest) node there) (behind_front front rest)

-- none of the paths stands twice
pub behind_once : (front : List ℕ) (nodes : Nodes) (i : ℕ) (path : List ℕ) → i < length (paths_behind front nodes) → path ≡ get_or (paths_behind front nodes) i path → Contains (take i (paths_behind front nodes)) path → ⊥
behind_once front nodes i path lt at there = stands_once (paths_behind front nodes) i path (rising_filter bytes_cmp (is_behind front) (map.keys nodes) (keys_rise bytes_cmp nodes)) lt at there
