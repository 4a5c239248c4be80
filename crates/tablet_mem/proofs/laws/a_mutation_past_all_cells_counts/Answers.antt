use Rattle.tablet_mem.proofs.LawsLemmas.{newest-put, consistent-put}
use Rattle.tablet_mem.proofs.laws.a_mutation_past_all_cells_counts.Goals as goal

pub returns : goal.returns
returns c = record { newest = newest-put; consistent = consistent-put }
