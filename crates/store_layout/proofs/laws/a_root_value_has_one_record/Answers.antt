use Rattle.store_layout.proofs.FitLemmas.{one_record}
use Rattle.store_layout.proofs.laws.a_root_value_has_one_record.Goals as goal

pub returns : goal.returns
returns c = λ one other table end form_one form_other same. one_record one other table end form_one form_other same
