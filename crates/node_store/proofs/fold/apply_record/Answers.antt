use Rattle.std.proofs.Common.{◌∙◌, inl, inr, sym, ap}
use Rattle.node_store.specs.Nodes.{multi_applied}
use Rattle.node_store.proofs.FoldLemmas.{turns_none}
use Rattle.node_store.proofs.fold.apply_record.Goals as goal

pub returns-clause-made : goal.returns-clause-made
returns-clause-made c =
    let nodes = c.args.nodes.now in
    let multi = rw c.in-Some.is at c.in_ok-ops.ensures in
    let other = rw c.if-is_no_memory.false at c.is_no_memory.ensures in
    elim c.in-Err.ensures.err [
      | inl refused ↦ turns_none c.args.payload.now c.in-Some.ops.items nodes c.in-Err.stop multi (sym (ap (λ ops. multi_applied ops nodes) c.deref.ensures.value) ∙ refused.0)
      | inr memory ↦ absurd (other memory)
    ]
