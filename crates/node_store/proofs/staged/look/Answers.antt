use Rattle.std.proofs.Common.{◌∙◌, sym, ap, unwrap_or}
use Rattle.std.specs.FinMap as map
use Rattle.node_store.proofs.PathMaps.{get-overlaid}
use Rattle.node_store.proofs.staged.look.Goals as goal

pub returns-in-Some : goal.returns-in-Some
returns-in-Some c =
    c.as_ref.ensures.value ∙ sym (get-overlaid c.args.nodes.now c.args.staged.now c.args.path.now ∙ ap (λ o. unwrap_or o (map.get c.args.nodes.now c.args.path.now)) (sym c.in-Some.ensures))

pub returns-in-None : goal.returns-in-None
returns-in-None c =
    c.get-in-None.ensures ∙ sym (get-overlaid c.args.nodes.now c.args.staged.now c.args.path.now ∙ ap (λ o. unwrap_or o (map.get c.args.nodes.now c.args.path.now)) (sym c.in-None.ensures))
