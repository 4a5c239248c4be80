use Rattle.std.proofs.Common.{◌⊎◌, inl, inr, ◌≤◌, length}
use Rattle.metadata_schema.proofs.MergeLemmas.{finished}
use Rattle.metadata_schema.proofs.between.between.Goals as goal
use Rattle.metadata_schema.proofs.between.between.Goals.{then-loop-from-test+else-to-new, else-loop-from-test}

pub returns : goal.returns
returns c =
    let done : (length c.args.old.now ≤ c.loop-from.from) ⊎ (length c.args.new.now ≤ c.loop-from.to) = elim c.loop-from-test.branch [
      | then-loop-from-test+else-to-new w ↦ inr w.if-to-new.false
      | else-loop-from-test w ↦ inl w.loop-from-test.false
    ] in
    finished c.args.old.now c.args.new.now c.loop-from.from c.loop-from.to c.loop-from.updates.items c.push_removals.new.updates.items c.push_copies.new.updates.items
    c.in_ok-push_removals.ensures c.in_ok-push_copies.ensures c.loop-from.invariant.rest done
