use Rattle.store_meaning.proofs.StateLemmas.{last_counts, others_count}
use Rattle.store_meaning.proofs.tables.the_last_layer_counts.Goals as goal

pub returns : goal.returns
returns c = record { last = last_counts; others = others_count }
