use Rattle.std.proofs.Common.{Err, ap}
use Rattle.std.proofs.lemmas.Result.{err_from_is_err_and}
use Rattle.shell.proofs.OpeningLemmas.{unopened, unread, opened, was_asked}
use Rattle.shell.proofs.opening.open_store.Goals as goal

pub returns-in_err-nodes : goal.returns-in_err-nodes
returns-in_err-nodes g c =
    let p = err_from_is_err_and c.from_residual.result c.from_residual.ensures.1 in
    rw (p.1, p.2) (unopened _ c.in_err-nodes.ensures.looks c.in_err-nodes.ensures.stops (λ short. was_asked g.H.Host.state (c.in_err-nodes.ensures.asked (ap (λ e. Err e) short))))

pub returns-in_err-store : goal.returns-in_err-store
returns-in_err-store g c =
    let p = err_from_is_err_and c.from_residual-in_err-store.result c.from_residual-in_err-store.ensures.1 in
    let nodes = c.in_ok-nodes.ensures in
    rw (p.1, p.2) (unread c.in_ok-nodes.nodes nodes.name nodes.looks nodes.stored _ nodes.born nodes.last c.in_err-store.ensures.stops)

pub returns : goal.returns
returns g c =
    let nodes = c.in_ok-nodes.ensures in
    let store = c.in_ok-store.ensures in
    opened c.in_ok-nodes.nodes nodes.name nodes.looks nodes.stored c.in_ok-store.store (g.met.H.Host.sound c.args.host.now) store.fresh store.nodes store.reading
