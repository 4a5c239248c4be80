use Rattle.std.proofs.Common.{◌≡◌, take}
use Rattle.table_store.specs.Layout.{counter_paths}
use Rattle.table_store.proofs.nodes.counter_paths.Given as goal

abbrev pub invariant-loop-bytes : goal.invariant-loop-bytes
invariant-loop-bytes l = l.paths.items ≡ take l.bytes-index counter_paths
