use Rattle.std.proofs.Common.{◌≡◌, ◌++◌, take, length, All}
use Rattle.std.specs.Int.{w32}
use Rattle.std.specs.List.{flat_map}
use Rattle.bytes_form.specs.Fields.{number_field}
use Rattle.node_store.specs.Multi.{spelled_change, Fits}
use Rattle.node_store.proofs.multi_text.spell_multi.Given as goal

abbrev pub invariant-loop-op : goal.invariant-loop-op
invariant-loop-op l = record {
  spelled : l.out.items ≡ number_field w32 (length l.ops) ++ flat_map spelled_change (take l.op-index l.ops);
  fit : All Fits (take l.op-index l.ops);
}
