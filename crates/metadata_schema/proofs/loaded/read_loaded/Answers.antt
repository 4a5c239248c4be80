use Rattle.std.proofs.Common.{◌≡◌, ◌∙◌, List, ℕ, sym, ap, subst, map}
use Rattle.std.specs.Prelude.{codes}
use Rattle.std.specs.List.{All}
use Rattle.std.proofs.lemmas.List.Elements.{All-push}
use Rattle.metadata_schema.specs.Records.{IsLoaded}
use Rattle.metadata_schema.specs.Bytes.{same}
use Rattle.metadata_schema.specs.Columns.{loaded_column}
use Rattle.metadata_schema.proofs.ReadingLemmas.{read_more, left_out}
use Rattle.metadata_schema.proofs.loaded.read_loaded.Goals as goal
use Rattle.metadata_schema.proofs.loaded.read_loaded.Goals.{then-eq+in_ok-entry+in_ok-push_item, else-eq}

pub loop-update-preserved : goal.loop-update-preserved
loop-update-preserved c =
    let us = c.args.updates.now in
    let at = c.loop-update.update-index in
    let u = c.update-item.result in
    let items = c.loop-update.entries.items in
    let tested : c.eq.result ≡ same u.family (codes "loaded") = c.eq.ensures ∙ ap (λ (l : List ℕ). same l (codes "loaded")) c.as_bytes.ensures in
    elim c.if-eq.branch [
      | then-eq+in_ok-entry+in_ok-push_item w ↦
          let pushed = ap (λ v. v.items) w.entries-is ∙ w.in_ok-push_item.ensures in
          record {
            read =
                ap (map loaded_column) pushed
                ∙ read_more loaded_column (codes "loaded") us at u items w.in_ok-entry.entry c.loop-update-test.true c.update-item.is (sym tested ∙ w.if-eq.true) w.in_ok-entry.ensures.0 c.loop-update.invariant.read;
            forms = subst (All IsLoaded) (sym pushed) (All-push IsLoaded items w.in_ok-entry.entry c.loop-update.invariant.forms w.in_ok-entry.ensures.1);
          }
      | else-eq w ↦
          let kept = ap (λ v. v.items) w.entries-is in
          record {
            read = ap (map loaded_column) kept ∙ c.loop-update.invariant.read ∙ sym (left_out (codes "loaded") us at u c.loop-update-test.true c.update-item.is (sym tested ∙ w.if-eq.false));
            forms = subst (All IsLoaded) (sym kept) c.loop-update.invariant.forms;
          }
    ]
