use Rattle.std.proofs.Common.{◌≡◌, ◌↔◌, ◌∙◌, ◌+◌, take, codes, List, ℕ, Contains, sym, ap, subst}
use Rattle.std.specs.FinMap as map
use Rattle.node_store.specs.Children.{children_of}
use Rattle.level_cache.proofs.ListedLemmas.{IsNamedIn, child_there, step_none, step_some, listed_all}
use Rattle.level_cache.proofs.listed.listed_files.Goals.{in-Some+in_ok-push, in_default}
use Rattle.level_cache.proofs.listed.listed_files.Goals as goal

pub path_in-requires : goal.path_in-requires
path_in-requires c =
    let nodes = c.args.nodes.now.nodes in
    let are : c.deref-node-items.result.now ≡ children_of (codes "/gc") (map.keys nodes) = c.deref-node-items.ensures.value ∙ c.in_ok-children.ensures ∙ ap (λ (p : List ℕ). children_of p (map.keys nodes)) c.in_ok-parent.ensures in
    child_there nodes c.node-item.result (subst (λ (l : List (List ℕ)). Contains l c.node-item.result) are (c.loop-node.node-index, c.loop-node-test.true, sym c.node-item.is))

pub loop-node-preserved : goal.loop-node-preserved
loop-node-preserved c =
    let items = c.deref-node-items.result.now in
    let node = c.node-item.result in
    elim c.match-branch-4.branch [
      | in-Some+in_ok-push w ↦
          step_some items c.loop-node.node-index node c.loop-node-test.true c.node-item.is c.loop-node.paths.items c.loop-node.invariant w.in-Some.path (rw w.in-Some.is at c.in_ok-path.ensures) c.match-branch-4.paths.items (ap (λ v. v.items) w.paths-is ∙ w.in_ok-push.ensures.items)
      | in_default w ↦
          subst (λ (l : List (List ℕ)). (path : List ℕ) → Contains l path ↔ IsNamedIn (take (c.loop-node.node-index + 1) items) path) (sym (ap (λ v. v.items) w.paths-is))
          (step_none items c.loop-node.node-index node c.loop-node-test.true c.node-item.is c.loop-node.paths.items c.loop-node.invariant (rw w.in_default.is at c.in_ok-path.ensures))
    ]

pub returns : goal.returns
returns c =
    let nodes = c.args.nodes.now.nodes in
    let are : c.deref-node-items.result.now ≡ children_of (codes "/gc") (map.keys nodes) = c.deref-node-items.ensures.value ∙ c.in_ok-children.ensures ∙ ap (λ (p : List ℕ). children_of p (map.keys nodes)) c.in_ok-parent.ensures in
    listed_all nodes c.deref-node-items.result.now c.loop-node.node-index are c.loop-node-test.false c.loop-node.paths.items c.loop-node.invariant
