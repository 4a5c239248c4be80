use Rattle.store_meaning.proofs.StateLemmas.{loaded, each_loaded}
use Rattle.store_meaning.proofs.tables.a_tablet_lacks_a_mark_until_all_is_loaded.Goals as goal

pub returns : goal.returns
returns c = λ tid paths tablet. (each_loaded tid tablet paths, loaded tid tablet paths)
