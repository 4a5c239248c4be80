use Rattle.level_index.proofs.RowLemmas.{begins}
use Rattle.level_index.proofs.rows.begin_with.Goals as goal

pub returns : goal.returns
returns c = begins c.args.front.now c.args.bytes.now c.starts_with.result c.starts_with.ensures.value
