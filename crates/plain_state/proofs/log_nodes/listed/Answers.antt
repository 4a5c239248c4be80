use Rattle.std.proofs.Common.{ℕ, ◌++◌, ◌∷◌, [], ◌∙◌, List, Contains, codes, sym, ap, subst, take}
use Rattle.std.proofs.lemmas.List.{take_all}
use Rattle.state_reader.proofs.RowLists.{one_more}
use Rattle.plain_state.specs.Paths.{paths_behind}
use Rattle.plain_state.proofs.LogLemmas.{AreValues, values_more, values_less, values_all}
use Rattle.plain_state.proofs.log_nodes.listed.Goals.{in-Some+in_ok-copy+in_ok-push, in_default}
use Rattle.plain_state.proofs.log_nodes.listed.Goals as goal

pub loop-path-preserved : goal.loop-path-preserved
loop-path-preserved c =
    let nodes = c.args.nodes.now.nodes in
    let paths = c.deref-path-items.result.now in
    let front = take c.loop-path.path-index paths in
    let path = c.path-item.result in
    let logs = c.loop-path.logs.items in
    let more = sym (one_more paths c.loop-path.path-index path c.loop-path-test.true c.path-item.is) in
    let among : Contains (paths_behind (codes "/logs/") nodes) path = subst (λ (l : List (List ℕ)). Contains l path) (c.deref-path-items.ensures.value ∙ c.in_ok-paths.ensures) (c.loop-path.path-index, c.loop-path-test.true, sym c.path-item.is) in
    subst (λ (l : List (List ℕ)). AreValues nodes l c.match-get.logs.items) more (elim c.match-get.branch [
      | in-Some+in_ok-copy+in_ok-push w ↦
          let pushed = ap (λ v. v.items) w.logs-is ∙ w.in_ok-push.ensures.items ∙ ap (λ (x : List ℕ). logs ++ x ∷ []) w.in_ok-copy.ensures in
          subst (AreValues nodes (front ++ path ∷ [])) (sym pushed) (values_more nodes front logs path w.in-Some.node.now c.loop-path.invariant among (sym w.in-Some.ensures))
      | in_default w ↦ subst (AreValues nodes (front ++ path ∷ [])) (sym (ap (λ v. v.items) w.logs-is)) (values_less nodes front logs path c.loop-path.invariant (sym (rw w.in_default.is at c.get.ensures)))
    ])

pub returns : goal.returns
returns c =
    let nodes = c.args.nodes.now.nodes in
    let paths = c.deref-path-items.result.now in
    let whole = subst (λ (l : List (List ℕ)). AreValues nodes l c.loop-path.logs.items) (take_all c.loop-path.path-index paths c.loop-path-test.false) c.loop-path.invariant in
    values_all nodes c.loop-path.logs.items (subst (λ (l : List (List ℕ)). AreValues nodes l c.loop-path.logs.items) (c.deref-path-items.ensures.value ∙ c.in_ok-paths.ensures) whole)
