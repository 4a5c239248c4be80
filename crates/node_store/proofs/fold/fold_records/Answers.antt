use Rattle.std.proofs.Common.{subst}
use Rattle.node_store.specs.Image.{Turns}
use Rattle.node_store.proofs.FoldLemmas.{folds_more}
use Rattle.node_store.proofs.fold.fold_records.Goals as goal

pub loop-record-preserved : goal.loop-record-preserved
loop-record-preserved c =
    let made = rw c.if-not-branch.false at c.in_ok-apply_record.ensures.made in
    folds_more c.args.records.now c.loop-record.record-index c.record-item.result c.loop-record.nodes c.apply_record.new.nodes c.loop-record-test.true c.record-item.is c.loop-record.invariant
    (subst (λ p. Turns p c.loop-record.nodes c.apply_record.new.nodes) c.as_bytes.ensures made)
