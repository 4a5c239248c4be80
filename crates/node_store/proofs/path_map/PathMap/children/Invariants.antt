use Rattle.std.proofs.Common.{◌≡◌, ◌++◌}
use Rattle.std.specs.Prelude.{filter}
use Rattle.std.specs.Map.{keys_of}
use Rattle.node_store.specs.Children.{is_child}
use Rattle.node_store.proofs.path_map.PathMap.children.Given as goal

abbrev pub invariant-loop-path : goal.invariant-loop-path
invariant-loop-path g l = l.children.items ++ filter (is_child l.parent) (keys_of l.path-iterator) ≡ filter (is_child l.parent) (keys_of l.initial.path-iterator)
