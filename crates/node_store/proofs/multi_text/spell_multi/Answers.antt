use Rattle.std.proofs.Common.{arith}
use Rattle.node_store.proofs.MultiLemmas.{length-spelled_multi, length-so_far, count-le, spells_all}
use Rattle.node_store.proofs.multi_text.spell_multi.Goals as goal

pub overflow_cast-ops : goal.overflow_cast-ops
overflow_cast-ops c = omega (arith, count-le c.args.ops.now, length-spelled_multi c.args.ops.now, c.in-Some.ensures)

pub put_change-requires : goal.put_change-requires
put_change-requires c =
    omega (arith, length-so_far c.args.ops.now c.loop-op.op-index c.op-item.result c.loop-op-test.true c.op-item.is, length-spelled_multi c.args.ops.now, c.in-Some.ensures)

pub returns : goal.returns
returns c =
    spells_all c.loop-op.out.items c.args.ops.now c.loop-op.op-index c.loop-op-test.false c.loop-op.invariant.spelled c.loop-op.invariant.fit (omega (arith, c.in-Some.ensures))
