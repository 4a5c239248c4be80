use Rattle.std.proofs.Common.{None}
use Rattle.level_rows.proofs.WayLemmas.{not_broken_from}
use Rattle.level_rows.proofs.laws.a_chain_is_not_broken.Goals as goal

pub returns : goal.returns
returns c = λ rows tablets is broken. not_broken_from rows None tablets broken.0 is broken.1
