use Rattle.std.proofs.Common.{◌∙◌, sym, ap, subst, arith, length}
use Rattle.std.specs.Vec.Iter.{into_iter_items}
use Rattle.tablet_mem.proofs.CountLemmas.{IsCounting, counting-begins, counting-step, counting-room, counting-ready, counting-cells, no_items}
use Rattle.tablet_mem.proofs.unflushed.Unflushed.put_ready.Goals as goal

pub loop-one-init : goal.loop-one-init
loop-one-init c = record {
  long = c.into_iter-one-iterator.ensures.into_iter_gives.1 ∙ c.args.ready.ok.0 ∙ ap length (sym c.into_iter-one-iterator.ensures.into_iter_gives.0);
  counting = subst (IsCounting c.args.self.now c.args.self.now c.args.ready.items) (sym c.into_iter-one-iterator.ensures.into_iter_gives.0) (counting-begins c.args.self.now c.args.ready.items c.requires);
}

pub count_one-requires-clause-room : goal.count_one-requires-clause-room
count_one-requires-clause-room c =
    let turn = rw c.in-Some.is at c.next.ensures.steps in
    counting-room c.args.self.now c.loop-one.self c.args.ready.items (into_iter_items c.next.new.self) c.in-Some.one (subst (IsCounting c.args.self.now c.loop-one.self c.args.ready.items) turn.0 c.loop-one.invariant.counting)

pub count_one-requires-clause-ready : goal.count_one-requires-clause-ready
count_one-requires-clause-ready c =
    let turn = rw c.in-Some.is at c.next.ensures.steps in
    counting-ready c.args.self.now c.loop-one.self c.args.ready.items (into_iter_items c.next.new.self) c.in-Some.one (subst (IsCounting c.args.self.now c.loop-one.self c.args.ready.items) turn.0 c.loop-one.invariant.counting)

pub loop-one-preserved : goal.loop-one-preserved
loop-one-preserved c =
    let turn = rw c.in-Some.is at c.next.ensures.steps in
    record {
      long = let whole = c.loop-one.invariant.long in let items = ap length turn.0 in let less = turn.1 in omega arith;
      counting =
          counting-step c.args.self.now c.loop-one.self (record { cells = c.count_one.new.cells; places = c.count_one.new.places }) c.args.ready.items (into_iter_items c.next.new.self) c.in-Some.one (subst (IsCounting c.args.self.now c.loop-one.self c.args.ready.items) turn.0 c.loop-one.invariant.counting)
          c.count_one.ensures.cells c.count_one.ensures.capacity c.count_one.ensures.kept c.count_one.ensures.index;
    }

pub returns-clause-cells : goal.returns-clause-cells
returns-clause-cells c =
    let turn = rw c.in-None.is at c.next.ensures.steps in
    counting-cells c.args.self.now c.loop-one.self c.args.ready.items
    (subst (IsCounting c.args.self.now c.loop-one.self c.args.ready.items) (no_items (into_iter_items c.loop-one.one-iterator) (sym c.loop-one.invariant.long ∙ turn.0)) c.loop-one.invariant.counting)

pub returns-clause-index : goal.returns-clause-index
returns-clause-index c = c.loop-one.invariant.counting.index
