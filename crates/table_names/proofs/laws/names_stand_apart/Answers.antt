use Rattle.table_names.proofs.NameLemmas.{one_named}
use Rattle.table_names.proofs.laws.names_stand_apart.Goals as goal

pub returns : goal.returns
returns c = λ nodes catalog tables name one other of apart are one_in other_in p q. one_named nodes catalog tables name one other of apart are one_in other_in p q
