use Rattle.store_meaning.proofs.OneState.{one_reading}
use Rattle.store_meaning.proofs.stands.a_ground_has_one_reading.Goals as goal

pub returns : goal.returns
returns c = one_reading c.a_table_has_one_chain.ensures
