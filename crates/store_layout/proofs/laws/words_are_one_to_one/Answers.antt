use Rattle.store_layout.proofs.WordLemmas.{one_word, one_bound}
use Rattle.store_layout.proofs.laws.words_are_one_to_one.Goals as goal

pub returns : goal.returns
returns c = record { texts = one_word; bounds = one_bound }
