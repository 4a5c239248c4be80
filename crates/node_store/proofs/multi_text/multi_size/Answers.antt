use Rattle.std.proofs.Common.{ap, arith, length}
use Rattle.std.specs.List.{flat_map}
use Rattle.std.proofs.lemmas.List.{take_all}
use Rattle.node_store.specs.Multi.{spelled_change}
use Rattle.node_store.proofs.MultiLemmas.{length-spelled_multi, length-so_far}
use Rattle.node_store.proofs.multi_text.multi_size.Goals as goal

pub returns-then-more-size : goal.returns-then-more-size
returns-then-more-size c =
    omega (arith, length-spelled_multi c.args.ops.now, length-so_far c.args.ops.now c.loop-op.op-index c.op-item.result c.loop-op-test.true c.op-item.is, c.loop-op.invariant.counts, c.change_size-more.ensures)

pub returns : goal.returns
returns c =
    let all = ap (λ l. length (flat_map spelled_change l)) (take_all c.loop-op.op-index c.args.ops.now c.loop-op-test.false) in
    (omega (arith, length-spelled_multi c.args.ops.now, all, c.loop-op.invariant.counts), c.loop-op.invariant.short)
