use Rattle.store_meaning.proofs.ChainWriteLemmas.{metadata_tablet_written}
use Rattle.store_meaning.proofs.chain_writes.a_metadata_record_takes_its_place.Goals as goal

pub returns : goal.returns
returns c = λ known reading is write change rewrites. metadata_tablet_written known reading is write change rewrites
