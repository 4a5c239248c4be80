use Rattle.cell_merge.proofs.LatestLemmas.{newest-push, AreConsistent-push}
use Rattle.cell_merge.proofs.laws.one_later_cell_changes_its_key_alone.Goals as goal

pub returns : goal.returns
returns c = record { newest = newest-push; consistent = AreConsistent-push }
