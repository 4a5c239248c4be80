use Rattle.std.proofs.Common.{None}
use Rattle.level_rows.proofs.RewireLemmas.{framed}
use Rattle.level_rows.proofs.changes.records_that_stand_as_before_are_the_chain.Goals as goal

pub returns : goal.returns
returns c = λ old new tablets. framed old new None tablets
