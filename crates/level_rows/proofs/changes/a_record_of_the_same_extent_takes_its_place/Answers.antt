use Rattle.level_rows.proofs.SplitLemmas.{replaced}
use Rattle.level_rows.proofs.changes.a_record_of_the_same_extent_takes_its_place.Goals as goal

pub returns : goal.returns
returns c = replaced
