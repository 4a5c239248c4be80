use Rattle.host_model.specs.declared.fault.Stop.{Stop}
use Rattle.host_model.proofs.StoresLemmas.{stores_ok}
use Rattle.node_store.proofs.ImageLemmas.{alters_create, alters_uncreated}
use Rattle.node_store.proofs.store.NodeStore.create.Goals as goal

pub returns-in_err-journal-clause-alters : goal.returns-in_err-journal-clause-alters
returns-in_err-journal-clause-alters g c = alters_uncreated c.from_residual.result c.from_residual.ensures.0 (g.met.H.Host.sound c.args.host.now) c.in_err-journal.ensures.stores

pub returns-clause-alters : goal.returns-clause-alters
returns-clause-alters g c = alters_create (g.met.H.Host.sound c.args.host.now) (stores_ok Stop _ c.in_ok-journal.ensures.stores)
