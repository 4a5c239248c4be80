use Rattle.std.proofs.lemmas.Result.{IfErr-weaker}
use Rattle.level_rows.specs.Chain.{rows_of}
use Rattle.state_reader.specs.Still.{ground_of}
use Rattle.plain_reader.proofs.PartLemmas.{no_parts}
use Rattle.plain_reader.proofs.table.table_parts.Goals as goal

pub returns-clause-none : goal.returns-clause-none
returns-clause-none c = IfErr-weaker c.parts_of.result _ _ (λ fault cause other. no_parts (ground_of c.args.still.now) (rows_of c.args.table.now c.args.records.now) c.args.mark.now fault cause other) c.parts_of.ensures.cause
