use Rattle.std.proofs.Common.{◌++◌, ◌∷◌, [], ◌∙◌, List, sym, ap, subst, take}
use Rattle.std.proofs.lemmas.List.{take_all}
use Rattle.metadata_schema.specs.declared.tablet.TabletRecord.{TabletRecord}
use Rattle.state_reader.proofs.RowLists.{one_more}
use Rattle.plain_state.proofs.RecordLemmas.{AreFound, found_more, found_less, found_all}
use Rattle.plain_state.proofs.records.records_in.Goals.{in-Some+in_ok-copy+in_ok-push, in_default}
use Rattle.plain_state.proofs.records.records_in.Goals as goal

pub loop-tablet-preserved : goal.loop-tablet-preserved
loop-tablet-preserved c =
    let all = c.as_slice-all.result.now in
    let front = take c.loop-tablet.tablet-index all in
    let tablet = c.tablet-item.result in
    let found = c.loop-tablet.records.items in
    let more = sym (one_more all c.loop-tablet.tablet-index tablet c.loop-tablet-test.true c.tablet-item.is) in
    subst (λ (l : List TabletRecord). AreFound all l c.match-find.records.items) more (elim c.match-find.branch [
      | in-Some+in_ok-copy+in_ok-push w ↦
          let pushed = ap (λ v. v.items) w.records-is ∙ w.in_ok-push.ensures.items ∙ ap (λ (x : TabletRecord). found ++ x ∷ []) w.in_ok-copy.ensures in
          subst (AreFound all (front ++ tablet ∷ [])) (sym pushed) (found_more all front found tablet w.in-Some.first.now c.loop-tablet.invariant (sym w.in-Some.ensures))
      | in_default w ↦ subst (AreFound all (front ++ tablet ∷ [])) (sym (ap (λ v. v.items) w.records-is)) (found_less all front found tablet c.loop-tablet.invariant (sym (rw w.in_default.is at c.find.ensures)))
    ])

pub returns : goal.returns
returns c =
    let all = c.as_slice-all.result.now in
    let whole = subst (λ (l : List TabletRecord). AreFound all l c.loop-tablet.records.items) (take_all c.loop-tablet.tablet-index all c.loop-tablet-test.false) c.loop-tablet.invariant in
    found_all c.args.rows.now c.loop-tablet.records.items (subst (λ (l : List TabletRecord). AreFound l l c.loop-tablet.records.items) c.as_slice-all.ensures whole)
