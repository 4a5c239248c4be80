use Rattle.tablet_mem.proofs.LawsLemmas.{latest-within, latest-outside}
use Rattle.tablet_mem.proofs.laws.newest_cells_stand_for_all.Goals as goal

pub returns : goal.returns
returns c = record { within = latest-within; outside = latest-outside }
