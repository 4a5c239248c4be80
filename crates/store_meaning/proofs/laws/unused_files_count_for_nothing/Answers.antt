use Rattle.store_meaning.proofs.UseLemmas.{read_same, agree_back}
use Rattle.store_meaning.proofs.laws.unused_files_count_for_nothing.Goals as goal

pub returns : goal.returns
returns c = λ reading old new agree. (read_same reading old new agree, read_same reading new old (agree_back reading old new agree))
