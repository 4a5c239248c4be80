use Rattle.journal_core.proofs.ReadingLemmas.{one_list}
use Rattle.journal_core.proofs.reading.one_list.Goals as goal

pub returns : goal.returns
returns c = one_list
