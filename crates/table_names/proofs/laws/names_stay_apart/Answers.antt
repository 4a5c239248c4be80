use Rattle.table_names.proofs.NameLemmas.{stay_apart}
use Rattle.table_names.proofs.laws.names_stay_apart.Goals as goal

pub returns : goal.returns
returns c = λ catalog table apart free. stay_apart catalog table apart free
