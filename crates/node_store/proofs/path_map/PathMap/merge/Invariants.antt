use Rattle.std.proofs.Common.{◌≡◌, ℕ, List, unwrap_or, All}
use lib.Dec.{T}
use Rattle.std.specs.FinMap as map
use Rattle.std.specs.FinMap.{find, is_sorted}
use Rattle.std.specs.Map.{keys_of}
use Rattle.row_keys.specs.Forms.{IsPath}
use Rattle.node_store.specs.PathsTo.{path_cmp}
use Rattle.node_store.proofs.path_map.PathMap.merge.Given as goal

abbrev pub invariant-loop-path : goal.invariant-loop-path
invariant-loop-path g l = record {
  sorted : T (is_sorted path_cmp l.path-iterator);
  forms : All IsPath (keys_of l.path-iterator);
  leads : (q : List ℕ) → unwrap_or (find path_cmp q l.path-iterator) (map.get l.self q) ≡ unwrap_or (find path_cmp q l.initial.path-iterator) (map.get l.initial.self q);
}
