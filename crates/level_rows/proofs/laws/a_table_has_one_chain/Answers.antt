use Rattle.std.proofs.Common.{None}
use Rattle.level_rows.proofs.WayLemmas.{one_chain_from}
use Rattle.level_rows.proofs.laws.a_table_has_one_chain.Goals as goal

pub returns : goal.returns
returns c = λ rows. one_chain_from rows None
