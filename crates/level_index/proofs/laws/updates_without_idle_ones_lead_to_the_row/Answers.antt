use Rattle.level_index.proofs.LawLemmas.{make_leads}
use Rattle.level_index.proofs.laws.updates_without_idle_ones_lead_to_the_row.Goals as goal

pub returns : goal.returns
returns c = make_leads
