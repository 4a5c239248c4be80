use Rattle.table_names.proofs.ListLemmas.{among_all}
use Rattle.table_names.proofs.laws.a_told_table_is_among_all.Goals as goal

pub returns : goal.returns
returns c = λ nodes tables id table are at. among_all nodes tables id table are at
