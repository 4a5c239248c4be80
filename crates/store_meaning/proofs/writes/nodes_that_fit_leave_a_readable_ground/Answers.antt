use Rattle.store_meaning.proofs.NodeLemmas.{nodes_read}
use Rattle.store_meaning.proofs.writes.nodes_that_fit_leave_a_readable_ground.Goals as goal

pub returns : goal.returns
returns c = λ known reading is nodes fit. nodes_read known reading is nodes fit
