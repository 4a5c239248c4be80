use Rattle.node_store.proofs.ImageLemmas.{alters_nothing}
use Rattle.table_store.proofs.creating.commit.Goals as goal

pub returns-in_err-offer-clause-alters : goal.returns-in_err-offer-clause-alters
returns-in_err-offer-clause-alters g c = alters_nothing c.args.ops.now c.args.nodes.now c.from_residual.result (g.H.Host.state c.args.host.now) c.from_residual.ensures.0 (g.met.H.Host.sound c.args.host.now)
