use Rattle.store_layout.proofs.FitLemmas.{columns_are_updates}
use Rattle.store_layout.proofs.laws.columns_of_records_are_updates.Goals as goal

pub returns : goal.returns
returns c = λ tablet form few. columns_are_updates tablet form few
