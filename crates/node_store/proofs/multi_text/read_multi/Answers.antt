use Rattle.std.proofs.Common.{length, sym, ap, subst, arith}
use Rattle.std.proofs.lemmas.Bool.Decides.{nat_tests}
use Rattle.node_store.proofs.ReadingLemmas.{ReadSoFar, read_none, read_more, read_all, read_cut, read_past}
use Rattle.node_store.proofs.multi_text.read_multi.Goals as goal

pub loop-init : goal.loop-init
loop-init c =
    let payload = c.args.payload.now in
    record {
      so_far = subst (λ ops. ReadSoFar payload c.in-Ok.count.value ops c.in-Ok.count.rest.now) (sym c.new-ops.ensures.items) (read_none payload c.in-Ok.count.value c.in-Ok.count.rest.now c.in-Ok.ensures.fits c.in-Ok.ensures.ok);
      counts = ap length c.new-ops.ensures.items;
    }

pub returns-in_default-2 : goal.returns-in_default-2
returns-in_default-2 c =
    let none = rw c.in_default-2.is at c.in_ok-op.ensures in
    read_cut c.loop.invariant.so_far (omega (arith, c.loop.invariant.counts, c.loop-test.true)) none

pub loop-preserved : goal.loop-preserved
loop-preserved c =
    let starts = rw c.in-Some.is at c.in_ok-op.ensures in
    let items = c.in_ok-push.ensures.items in
    record {
      so_far = subst (λ ops. ReadSoFar c.args.payload.now c.in-Ok.count.value ops c.in-Some.after.now) (sym items) (read_more c.in-Some.op c.in-Some.after.now c.loop.invariant.so_far (omega (arith, c.loop.invariant.counts, c.loop-test.true)) starts);
      counts = omega (arith, c.in_ok-push.ensures.len, c.loop.invariant.counts, c.push.new.self.ok.0, c.loop.ops.ok.0);
    }

pub returns-then-not-is_empty : goal.returns-then-not-is_empty
returns-then-not-is_empty c =
    read_past c.loop.invariant.so_far (omega (arith, c.loop.invariant.counts, c.loop-test.false, c.loop.auto.counter-end)) (λ e. grind (arith, nat_tests, e, c.is_empty.ensures, c.if-not-is_empty.true))

pub returns : goal.returns
returns c =
    read_all c.loop.invariant.so_far c.in-Ok.ensures.fits (omega (arith, c.loop.invariant.counts, c.loop-test.false, c.loop.auto.counter-end)) (grind (arith, nat_tests, c.is_empty.ensures, c.if-not-is_empty.false))
