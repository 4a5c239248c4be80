use Rattle.std.proofs.Common.{◌≡◌, ◌∙◌, List, ℕ, sym, ap, subst, map}
use Rattle.std.specs.Prelude.{codes}
use Rattle.std.specs.List.{All}
use Rattle.std.proofs.lemmas.List.Elements.{All-push}
use Rattle.row_keys.specs.Forms.{IsLogName}
use Rattle.metadata_schema.specs.Bytes.{same}
use Rattle.metadata_schema.specs.Columns.{log_column}
use Rattle.metadata_schema.proofs.ReadingLemmas.{read_more, left_out}
use Rattle.metadata_schema.proofs.logs.read_logs.Goals as goal
use Rattle.metadata_schema.proofs.logs.read_logs.Goals.{then-eq+in_ok-log+in_ok-push_item, else-eq}

pub loop-update-preserved : goal.loop-update-preserved
loop-update-preserved c =
    let us = c.args.updates.now in
    let at = c.loop-update.update-index in
    let u = c.update-item.result in
    let items = c.loop-update.logs.items in
    let tested : c.eq.result ≡ same u.family (codes "log") = c.eq.ensures ∙ ap (λ (l : List ℕ). same l (codes "log")) c.as_bytes.ensures in
    elim c.if-eq.branch [
      | then-eq+in_ok-log+in_ok-push_item w ↦
          let pushed = ap (λ v. v.items) w.logs-is ∙ w.in_ok-push_item.ensures in
          record {
            read =
                ap (map log_column) pushed
                ∙ read_more log_column (codes "log") us at u items w.in_ok-log.log c.loop-update-test.true c.update-item.is (sym tested ∙ w.if-eq.true) w.in_ok-log.ensures.0 c.loop-update.invariant.read;
            forms = subst (All IsLogName) (sym pushed) (All-push IsLogName items w.in_ok-log.log c.loop-update.invariant.forms w.in_ok-log.ensures.1);
          }
      | else-eq w ↦
          let kept = ap (λ v. v.items) w.logs-is in
          record {
            read = ap (map log_column) kept ∙ c.loop-update.invariant.read ∙ sym (left_out (codes "log") us at u c.loop-update-test.true c.update-item.is (sym tested ∙ w.if-eq.false));
            forms = subst (All IsLogName) (sym kept) c.loop-update.invariant.forms;
          }
    ]
