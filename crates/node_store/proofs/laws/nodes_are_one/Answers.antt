use Rattle.node_store.proofs.ImageLemmas.{one_nodes}
use Rattle.node_store.proofs.laws.nodes_are_one.Goals as goal

pub returns : goal.returns
returns c = one_nodes
