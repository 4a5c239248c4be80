use Rattle.store_meaning.proofs.AsideLemmas.{read_aside, read_aside_back, readable_aside}
use Rattle.store_meaning.proofs.laws.nodes_aside_count_for_nothing.Goals as goal

pub returns-clause-read : goal.returns-clause-read
returns-clause-read c = λ reading known nodes agree. (read_aside reading known nodes agree, read_aside_back reading known nodes agree)

pub returns-clause-images : goal.returns-clause-images
returns-clause-images c = readable_aside c.nodes_are_one.ensures
