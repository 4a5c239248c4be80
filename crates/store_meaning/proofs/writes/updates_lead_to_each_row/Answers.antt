use Rattle.store_meaning.proofs.LeadLemmas.{record_lead, candidate_lead, flag_lead, whole_lead}
use Rattle.store_meaning.proofs.writes.updates_lead_to_each_row.Goals as goal

pub returns : goal.returns
returns c = record { records = record_lead; candidates = candidate_lead; flags = flag_lead; new_row = whole_lead }
