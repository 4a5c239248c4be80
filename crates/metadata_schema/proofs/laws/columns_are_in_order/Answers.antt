use Rattle.metadata_schema.proofs.RisingLemmas.{columns_rise}
use Rattle.metadata_schema.proofs.laws.columns_are_in_order.Goals as goal

pub returns : goal.returns
returns c = columns_rise
