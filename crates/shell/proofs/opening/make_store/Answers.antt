use Rattle.std.proofs.Common.{Err, ap}
use Rattle.std.proofs.lemmas.Result.{err_from_is_err_and}
use Rattle.shell.proofs.OpeningLemmas.{unmade, unread_new, made_store, was_asked}
use Rattle.shell.proofs.opening.make_store.Goals as goal

pub returns-in_err-nodes : goal.returns-in_err-nodes
returns-in_err-nodes g c =
    let p = err_from_is_err_and c.from_residual.result c.from_residual.ensures.1 in
    rw (p.1, p.2) (unmade c.a_new_store_is_kept.ensures c.in_err-nodes.ensures.begins c.in_err-nodes.ensures.spares _ c.in_err-nodes.ensures.stops (λ short. was_asked g.H.Host.state (c.in_err-nodes.ensures.asked (ap (λ e. Err e) short))))

pub returns-in_err-store : goal.returns-in_err-store
returns-in_err-store g c =
    let p = err_from_is_err_and c.from_residual-in_err-store.result c.from_residual-in_err-store.ensures.1 in
    let nodes = c.in_ok-nodes.ensures in
    rw (p.1, p.2) (unread_new c.a_new_store_is_kept.ensures nodes.begins nodes.spares c.in_ok-nodes.nodes nodes.first _ nodes.last c.in_err-store.ensures.stops)

pub returns : goal.returns
returns g c =
    let nodes = c.in_ok-nodes.ensures in
    let store = c.in_ok-store.ensures in
    made_store c.a_new_store_is_kept.ensures nodes.begins nodes.spares c.in_ok-nodes.nodes nodes.first c.in_ok-store.store store.fresh store.nodes store.reading nodes.was_unborn nodes.new_store nodes.stored nodes.rests
