use Rattle.table_store.proofs.ValueLemmas.{tells_drawn}
use Rattle.table_store.proofs.values.is_drawn.Goals as goal

pub returns-then-number-gt0 : goal.returns-then-number-gt0
returns-then-number-gt0 c = tells_drawn c.args.next c.in-Some.number c.args.id.now c.in-Some.ensures c.if-number-gt0.true.0 c.if-number-gt0.true.1
