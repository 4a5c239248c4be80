use Rattle.store_meaning.proofs.ReadingLemmas.{one_reading}
use Rattle.store_meaning.proofs.laws.a_root_record_has_one_reading.Goals as goal

pub returns : goal.returns
returns c = one_reading c.a_table_has_one_chain.ensures
