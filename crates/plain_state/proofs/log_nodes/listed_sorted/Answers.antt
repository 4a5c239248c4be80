use Rattle.std.proofs.Common.{ℕ, ◌++◌, ◌∷◌, [], ◌∙◌, List, Contains, codes, Some, None, sym, ap, subst, take}
use Rattle.std.proofs.lemmas.Bool.Decides.{Decides-eqb}
use Rattle.std.proofs.lemmas.List.{take_all}
use Rattle.std.proofs.lemmas.Slice.Eq.{strip_prefix_is}
use Rattle.state_reader.proofs.RowLists.{one_more}
use Rattle.plain_state.specs.Paths.{paths_behind}
use Rattle.plain_state.proofs.LogLemmas.{AreBehind, behind_more, behind_less, behind_all}
use Rattle.plain_state.proofs.log_nodes.listed_sorted.Goals.{in-Some+in_ok-new+in_ok-push, in_default}
use Rattle.plain_state.proofs.log_nodes.listed_sorted.Goals as goal

pub loop-path-preserved : goal.loop-path-preserved
loop-path-preserved c =
    let nodes = c.args.nodes.now.nodes in
    let paths = c.deref-path-items.result.now in
    let front = take c.loop-path.path-index paths in
    let path = c.path-item.result in
    let logs = c.loop-path.logs.items in
    let more = sym (one_more paths c.loop-path.path-index path c.loop-path-test.true c.path-item.is) in
    let among : Contains (paths_behind (codes "/sorted/") nodes) path = subst (λ (l : List (List ℕ)). Contains l path) (c.deref-path-items.ensures.value ∙ c.in_ok-paths.ensures) (c.loop-path.path-index, c.loop-path-test.true, sym c.path-item.is) in
    subst (λ (l : List (List ℕ)). AreBehind nodes l c.match-strip_prefix.logs.items) more (elim c.match-strip_prefix.branch [
      | in-Some+in_ok-new+in_ok-push w ↦
          let log = w.in-Some.log.now in
          let pushed = ap (λ v. v.items) w.logs-is ∙ w.in_ok-push.ensures.items ∙ ap (λ (x : List ℕ). logs ++ x ∷ []) w.in_ok-new.ensures in
          let place = sym c.as_bytes.ensures.bytes ∙ strip_prefix_is Decides-eqb c.as_bytes.result.now (codes "/sorted/") (Some w.in-Some.log) w.in-Some.ensures.cases in
          subst (AreBehind nodes (front ++ path ∷ [])) (sym pushed) (behind_more nodes front logs path log c.loop-path.invariant among place)
      | in_default w ↦
          let none = strip_prefix_is Decides-eqb c.as_bytes.result.now (codes "/sorted/") None (rw w.in_default.is at c.strip_prefix.ensures.cases) in
          subst (AreBehind nodes (front ++ path ∷ [])) (sym (ap (λ v. v.items) w.logs-is)) (behind_less nodes front logs path c.loop-path.invariant (λ log is. none log (c.as_bytes.ensures.bytes ∙ is)))
    ])

pub returns : goal.returns
returns c =
    let nodes = c.args.nodes.now.nodes in
    let paths = c.deref-path-items.result.now in
    let whole = subst (λ (l : List (List ℕ)). AreBehind nodes l c.loop-path.logs.items) (take_all c.loop-path.path-index paths c.loop-path-test.false) c.loop-path.invariant in
    behind_all nodes c.loop-path.logs.items (subst (λ (l : List (List ℕ)). AreBehind nodes l c.loop-path.logs.items) (c.deref-path-items.ensures.value ∙ c.in_ok-paths.ensures) whole)
