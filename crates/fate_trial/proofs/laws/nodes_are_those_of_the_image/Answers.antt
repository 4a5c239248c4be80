use Rattle.fate_trial.proofs.DecodingLemmas.{read-nodes}
use Rattle.fate_trial.proofs.laws.nodes_are_those_of_the_image.Goals as goal

pub returns : goal.returns
returns c = read-nodes
