use Rattle.std.proofs.Common.{None}
use Rattle.level_rows.proofs.RewireLemmas.{framed, stand-with_row}
use Rattle.level_rows.proofs.BesideLemmas.{gone_beside, come_beside}
use Rattle.level_rows.specs.Changes.{with_row}
use Rattle.level_rows.proofs.changes.rows_outside_the_chain_leave_it.Goals as goal

pub returns : goal.returns
returns c = record {
  goes = gone_beside;
  again = λ rows tablets tablet was p there apart. framed rows (with_row rows tablet) None tablets p (stand-with_row rows tablet was tablets there apart);
  comes = come_beside;
}
