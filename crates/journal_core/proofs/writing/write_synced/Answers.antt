use Rattle.host_model.proofs.StoresLemmas.{write_synced}
use Rattle.journal_core.proofs.writing.write_synced.Goals as goal

pub returns-clause-stores : goal.returns-clause-stores
returns-clause-stores g c = write_synced c.in_ok-write.ensures c.sync.ensures
