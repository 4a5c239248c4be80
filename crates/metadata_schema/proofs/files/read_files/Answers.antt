use Rattle.std.proofs.Common.{◌≡◌, ◌∙◌, List, ℕ, sym, ap, subst, map}
use Rattle.std.specs.Prelude.{codes}
use Rattle.std.specs.List.{All}
use Rattle.std.proofs.lemmas.List.Elements.{All-push}
use Rattle.metadata_schema.specs.Records.{IsFile}
use Rattle.metadata_schema.specs.Bytes.{same}
use Rattle.metadata_schema.specs.Columns.{file_column}
use Rattle.metadata_schema.proofs.ReadingLemmas.{read_more, left_out}
use Rattle.metadata_schema.proofs.files.read_files.Goals as goal
use Rattle.metadata_schema.proofs.files.read_files.Goals.{then-eq+in_ok-file+in_ok-push_item, else-eq}

pub loop-update-preserved : goal.loop-update-preserved
loop-update-preserved c =
    let us = c.args.updates.now in
    let at = c.loop-update.update-index in
    let u = c.update-item.result in
    let items = c.loop-update.files.items in
    let tested : c.eq.result ≡ same u.family (codes "file") = c.eq.ensures ∙ ap (λ (l : List ℕ). same l (codes "file")) c.as_bytes.ensures in
    elim c.if-eq.branch [
      | then-eq+in_ok-file+in_ok-push_item w ↦
          let pushed = ap (λ v. v.items) w.files-is ∙ w.in_ok-push_item.ensures in
          record {
            read =
                ap (map file_column) pushed
                ∙ read_more file_column (codes "file") us at u items w.in_ok-file.file c.loop-update-test.true c.update-item.is (sym tested ∙ w.if-eq.true) w.in_ok-file.ensures.0 c.loop-update.invariant.read;
            forms = subst (All IsFile) (sym pushed) (All-push IsFile items w.in_ok-file.file c.loop-update.invariant.forms w.in_ok-file.ensures.1);
          }
      | else-eq w ↦
          let kept = ap (λ v. v.items) w.files-is in
          record {
            read = ap (map file_column) kept ∙ c.loop-update.invariant.read ∙ sym (left_out (codes "file") us at u c.loop-update-test.true c.update-item.is (sym tested ∙ w.if-eq.false));
            forms = subst (All IsFile) (sym kept) c.loop-update.invariant.forms;
          }
    ]
