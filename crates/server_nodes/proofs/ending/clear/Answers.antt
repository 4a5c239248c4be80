use Rattle.std.proofs.Common.{◌≡◌, ◌∙◌, length, sym, ap, arith}
use Rattle.std.proofs.lemmas.List.{nil_from_length}
use Rattle.std.proofs.lemmas.Bool.Decides.{nat_tests}
use Rattle.node_store.specs.Nodes.{multi_applied}
use Rattle.server_nodes.specs.Ending.{clear_ops}
use Rattle.server_nodes.proofs.StartLemmas.{never_refused}
use Rattle.server_nodes.proofs.ClearLemmas.{never_wanting}
use Rattle.server_nodes.proofs.Cleared.{left_none, left_without}
use Rattle.server_nodes.proofs.ending.clear.Goals as goal

pub own_stop-requires : goal.own_stop-requires
own_stop-requires g c =
    never_refused c.deref.result.now c.args.ground.now.nodes c.in-Err-multi.stop _ _ (never_wanting c.args.ground.now.nodes.nodes c.deref.result.now (c.deref.ensures.value ∙ c.in-Ok.ensures ∙ ap (λ n. clear_ops n.nodes) c.nodes.ensures)) (c.in-Err-multi.ensures.stops c.in_ok-check.ensures.runs)

pub returns-then-is_empty-clause-nodes : goal.returns-then-is_empty-clause-nodes
returns-then-is_empty-clause-nodes g c =
    let none : length c.in-Ok.ops.items ≡ 0 = grind (arith, nat_tests, c.if-is_empty.true, c.is_empty.ensures, c.in-Ok.ops.ok.0) in
    left_none c.args.ground.now.nodes.nodes (sym (c.in-Ok.ensures ∙ ap (λ n. clear_ops n.nodes) c.nodes.ensures) ∙ nil_from_length c.in-Ok.ops.items none)

pub returns-in-Ok-multi-clause-nodes : goal.returns-in-Ok-multi-clause-nodes
returns-in-Ok-multi-clause-nodes g c =
    let nodes = c.args.ground.now.nodes.nodes in
    let ops = c.deref.ensures.value ∙ c.in-Ok.ensures ∙ ap (λ n. clear_ops n.nodes) c.nodes.ensures in
    left_without nodes c.multi.new.self.nodes.nodes (ap (λ l. multi_applied l nodes) (sym ops) ∙ c.in-Ok-multi.ensures.nodes)
