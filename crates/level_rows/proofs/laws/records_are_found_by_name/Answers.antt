use Rattle.level_rows.proofs.LookupLemmas.{row-exactly, row-there}
use Rattle.level_rows.proofs.laws.records_are_found_by_name.Goals as goal

pub returns : goal.returns
returns c = record { each = row-exactly; found = row-there }
