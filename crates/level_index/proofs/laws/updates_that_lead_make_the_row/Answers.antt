use Rattle.level_index.proofs.LawLemmas.{leads_make}
use Rattle.level_index.proofs.laws.updates_that_lead_make_the_row.Goals as goal

pub returns : goal.returns
returns c = leads_make
