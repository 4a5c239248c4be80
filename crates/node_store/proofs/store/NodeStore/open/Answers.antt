use Rattle.std.proofs.Common.{◌∙◌, Err, ap, subst}
use Rattle.std.proofs.lemmas.Result.{err_from_is_err_and}
use Rattle.node_store.specs.Reading.{FoldsNone}
use Rattle.node_store.proofs.OpenLemmas.{open_causes, no_nodes}
use Rattle.node_store.proofs.store.NodeStore.open.Goals as goal

pub returns-in_err-journal-clause-stops : goal.returns-in_err-journal-clause-stops
returns-in_err-journal-clause-stops g c =
    let p = err_from_is_err_and c.from_residual.result c.from_residual.ensures.1 in
    open_causes c.args.name.now c.from_residual.result c.in_err-journal.field-0.0 (g.H.Host.state c.args.host.now) (g.H.Host.state c.open.new.host) (p.1 ∙ ap (λ e. Err e) p.2) c.in_err-journal.ensures.stops

pub returns-in_default-clause-stops : goal.returns-in_default-clause-stops
returns-in_default-clause-stops g c =
    let none = rw c.in_default.is at c.in_ok-nodes.ensures.made in
    (c.in_ok-copy.ensures, λ faithful. no_nodes (c.in_ok-journal.ensures.holds faithful) (subst FoldsNone c.records.ensures none), c.in_ok-journal.ensures.last)
