-- The nodes once all servers are taken out.
use Rattle.std.proofs.Common.{◌≡◌, ℕ, codes, Bool, true, false, cond, not, ◌&&◌, ◌||◌, is_some, List, [], ◌∷◌, map, Option, Some, None, Ok, refl, sym, ◌∙◌, ap}
use Rattle.std.specs.FinMap as finite
use Rattle.std.specs.FinMap.{get-remove, get-retain_keys, contains_key-keys, slice_cmp-IsAntisymmetric, nat_cmp-IsAntisymmetric}
use Rattle.std.specs.List.{list_any}
use Rattle.std.specs.Ordering.{eq_by_cmp}
use Rattle.std.specs.Cmp.Lexicographic.{nat_list_cmp_total}
use Rattle.std.proofs.lemmas.Map.Views.{any-filter_same}
use Rattle.node_store.specs.declared.changes.Node.{Node}
use Rattle.node_store.specs.Children.{is_child}
use Rattle.node_store.specs.Nodes.{Nodes, multi_applied}
use Rattle.node_store.specs.PathsTo.{path_cmp}
use Rattle.node_store.proofs.PathMaps.{same_paths}
use Rattle.server_nodes.specs.Ending.{delete_op, servers_in, clear_ops, without_servers}
use Rattle.server_nodes.proofs.KeptGone.{deleted_as}
use Rattle.server_nodes.proofs.PutLemmas.{is_equal}

abbrev same_path : List ℕ → List ℕ → Bool
same_path = eq_by_cmp path_cmp

none_first : (a b : Bool) (found : Option Node) → cond b None (cond a None found) ≡ cond (a || b) None found
none_first true true found = refl
none_first true false found = refl
none_first false b found = refl

-- what each path has once nodes were taken out
left_at : (paths : List (List ℕ)) (nodes after : Nodes) → multi_applied (map delete_op paths) nodes ≡ Ok after → (path : List ℕ) → finite.get after path ≡ cond (list_any (same_path path) paths) None (finite.get nodes path)
left_at [] nodes after done path = let same_nodes : nodes ≡ after = cc in ap (λ n. finite.get n path) (sym same_nodes)
left_at (first ∷ more) nodes after done path =
    let rest = left_at more (finite.remove nodes first) after (deleted_as nodes first (finite.get nodes first) refl (λ left. multi_applied (map delete_op more) left) after done) path in
    rest ∙ ap (cond (list_any (same_path path) more) None) (get-remove nat_list_cmp_total nodes first path) ∙ none_first (same_path path first) (list_any (same_path path) more) (finite.get nodes path)

abbrev is_server_node : List ℕ → Bool
is_server_node path = is_child (codes "/servers") path

tied_alike : (path other : List ℕ) → same_path path other ≡ true → is_server_node other ≡ is_server_node path
tied_alike path other tied = ap is_server_node (sym (slice_cmp-IsAntisymmetric nat_cmp-IsAntisymmetric path other (is_equal (path_cmp path other) tied)))

-- a server's path is one of those that were taken out exactly where it has a node
among : (nodes : Nodes) (path : List ℕ) → list_any (same_path path) (servers_in nodes) ≡ is_server_node path && is_some (finite.get nodes path)
among nodes path =
    any-filter_same (same_path path) is_server_node (is_server_node path) (tied_alike path) (finite.keys nodes)
    ∙ ap (λ b. is_server_node path && b) (sym (contains_key-keys nodes path))

retained : (a : Bool) (found : Option Node) → cond (a && is_some found) None found ≡ cond (not a) found None
retained true None = refl
retained true (Some node) = refl
retained false found = refl

pub left_without : (nodes after : Nodes) → multi_applied (clear_ops nodes) nodes ≡ Ok after → after ≡ without_servers nodes
left_without nodes after done = same_paths after (without_servers nodes) (λ path.
    left_at (servers_in nodes) nodes after done path
    ∙ ap (λ b. cond b None (finite.get nodes path)) (among nodes path)
    ∙ retained (is_server_node path) (finite.get nodes path)
    ∙ sym (get-retain_keys nodes (λ other. not (is_server_node other)) path (λ other tied. ap (λ p. not (is_server_node p)) (sym (slice_cmp-IsAntisymmetric nat_cmp-IsAntisymmetric path other tied)))))

-- and where there are none, all stay
pub left_none : (nodes : Nodes) → clear_ops nodes ≡ [] → nodes ≡ without_servers nodes
left_none nodes none = left_without nodes nodes (ap (λ ops. multi_applied ops nodes) none)
