use Rattle.node_store.proofs.ImageLemmas.{unborn_start}
use Rattle.node_store.proofs.laws.unborn_stays_unborn.Goals as goal

pub returns : goal.returns
returns c = unborn_start
