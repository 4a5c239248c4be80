use Rattle.std.proofs.Common.{None}
use Rattle.level_rows.proofs.RewireLemmas.{rewired_at}
use Rattle.level_rows.proofs.changes.a_record_takes_the_place_of_all_that_it_reaches.Goals as goal

pub returns : goal.returns
returns c = λ old new. rewired_at old new None
