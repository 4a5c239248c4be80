use Rattle.std.proofs.Common.{◌≡◌}
use Rattle.std.specs.BTreeMap.{is_at}
use Rattle.std.specs.Map.{lookup}
use Rattle.node_store.specs.PathsTo.{path_cmp}
use Rattle.state_reader.proofs.name_map.NameMap.get_bytes.Given as goal

abbrev pub invariant-loop-key : goal.invariant-loop-key
invariant-loop-key g l = lookup (is_at (path_cmp l.name)) l.key-iterator ≡ lookup (is_at (path_cmp l.name)) l.initial.key-iterator
