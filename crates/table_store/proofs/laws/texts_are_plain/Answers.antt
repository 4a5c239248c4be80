use Rattle.table_store.proofs.PlainLemmas.{texts_plain}
use Rattle.table_store.proofs.laws.texts_are_plain.Goals as goal

pub returns : goal.returns
returns c = texts_plain
