use Rattle.std.proofs.Common.{◌≡◌, ◌∙◌, inl, inr, sym, ap, drop, ◌+◌, Ok}
use Rattle.std.specs.FinMap as map
use Rattle.node_store.specs.Nodes.{turned, multi_applied, path_of}
use Rattle.node_store.specs.PathsTo.{overlaid}
use Rattle.node_store.proofs.PathMaps.{overlaid-empty}
use Rattle.node_store.proofs.Multis.{staged_more}
use Rattle.node_store.proofs.staged.stage.Goals as goal

pub loop-op-init : goal.loop-op-init
loop-op-init c = ap (λ m. multi_applied c.args.ops.now m) (sym (ap (λ s. overlaid c.args.nodes.now s) c.new-staged.ensures ∙ overlaid-empty c.args.nodes.now))

pub loop-op-preserved : goal.loop-op-preserved
loop-op-preserved c =
    let op = c.op-item.result in
    let nodes = c.args.nodes.now in
    let staged = c.loop-op.staged in
    let after = c.in_ok-after.after in
    let path : c.path-path.result.now ≡ path_of op = c.path-path.ensures in
    let made : Ok after ≡ turned op (map.get (overlaid nodes staged) (path_of op)) =
    elim c.in_ok-after.ensures [
      | inl e ↦ e ∙ ap (λ o. turned op o) (c.look.ensures ∙ ap (λ p. map.get (overlaid nodes staged) p) path)
      | inr e ↦ cc e
    ] in
    let kept = c.in_ok-insert.ensures.ok ∙ ap (λ p. map.insert staged p after) (c.in_ok-copy.ensures.ok ∙ path) in
    staged_more c.args.ops.now c.loop-op.op-index op nodes staged c.loop-op-test.true c.op-item.is after made c.loop-op.invariant ∙ ap (λ s. multi_applied (drop (c.loop-op.op-index + 1) c.args.ops.now) (overlaid nodes s)) (sym kept)
