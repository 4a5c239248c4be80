use Rattle.std.proofs.Common.{◌∙◌, subst, arith, ap, not, All}
use Rattle.std.proofs.lemmas.List.{take_all}
use Rattle.table_store.specs.Reading.{HasNext}
use Rattle.table_store.proofs.ReadingLemmas.{no_counter}
use Rattle.table_store.proofs.reading.has_counters.Goals as goal

pub returns-then-is_none : goal.returns-then-is_none
returns-then-is_none c =
    no_counter c.args.nodes.now.nodes c.deref-path-items.result.now c.loop-path.path-index c.path-item.result c.in_ok-next_number.field-0 (c.deref-path-items.ensures.value ∙ c.in_ok-counter_paths.ensures) c.loop-path-test.true c.path-item.is c.in_ok-next_number.ensures (ap not c.if-is_none.ensures)

pub returns : goal.returns
returns c =
    let are = c.deref-path-items.ensures.value ∙ c.in_ok-counter_paths.ensures in
    subst (λ l. All (HasNext c.args.nodes.now.nodes) l) (take_all c.loop-path.path-index c.deref-path-items.result.now (omega arith) ∙ are) c.loop-path.invariant
