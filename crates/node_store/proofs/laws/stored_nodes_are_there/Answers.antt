use Rattle.node_store.proofs.ImageLemmas.{stored_has}
use Rattle.node_store.proofs.laws.stored_nodes_are_there.Goals as goal

pub returns : goal.returns
returns c = stored_has
