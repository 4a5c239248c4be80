use Rattle.std.proofs.Common.{◌≡◌, ◌<◌, ◌+◌, ◌^◌, take, length}
use Rattle.std.specs.List.{flat_map}
use Rattle.node_store.specs.Multi.{spelled_change}
use Rattle.node_store.proofs.multi_text.multi_size.Given as goal

abbrev pub invariant-loop-op : goal.invariant-loop-op
invariant-loop-op l = record {
  counts : l.size ≡ 4 + length (flat_map spelled_change (take l.op-index l.ops));
  short : l.size < 2 ^ 32;
}
