use Rattle.metadata_schema.proofs.LawsLemmas.{lead_to}
use Rattle.metadata_schema.proofs.laws.updates_lead_to_the_new_columns.Goals as goal

pub returns : goal.returns
returns c = lead_to
