use Rattle.node_store.proofs.ImageLemmas.{others_dont_count}
use Rattle.node_store.proofs.laws.node_files_decide.Goals as goal

pub returns : goal.returns
returns c = others_dont_count
