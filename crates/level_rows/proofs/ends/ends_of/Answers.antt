use Rattle.std.proofs.Common.{◌≡◌, ◌∙◌, ◌+◌, sym, ap, subst, List, [], ◌∷◌, ◌++◌, take, refl}
use Rattle.std.proofs.lemmas.Bool.{false≢true}
use Rattle.std.proofs.lemmas.List.{take_more}
use Rattle.metadata_schema.specs.declared.tablet.TabletRecord.{TabletRecord}
use Rattle.level_rows.specs.Index.{Ends, IsIndexOf}
use Rattle.level_rows.proofs.IndexLemmas.{index_put, index_left, copied-none, copied-some}
use Rattle.level_rows.proofs.EndLemmas.{same-true, same-itself}
use Rattle.level_rows.proofs.ends.ends_of.Goals.{then-eq+then-not-contains_key+in_ok-insert, else-eq, else-eq-via-then-eq+else-not-contains_key, else-eq-via-else-eq}
use Rattle.level_rows.proofs.ends.ends_of.Goals as goal

pub loop-tablet-preserved : goal.loop-tablet-preserved
loop-tablet-preserved c =
    let table = c.args.table.now in
    let tablet = c.tablet-item.result in
    let before = take c.loop-tablet.tablet-index c.args.records.now in
    let more : take (c.loop-tablet.tablet-index + 1) c.args.records.now ≡ before ++ tablet ∷ [] =
    take_more c.args.records.now c.loop-tablet.tablet-index tablet c.loop-tablet-test.true
    ∙ ap (λ (x : TabletRecord). before ++ x ∷ []) (sym c.tablet-item.is) in
    subst (λ (l : List TabletRecord). IsIndexOf table l c.if-eq.ends) (sym more)
    (elim c.if-eq.branch [
      | then-eq+then-not-contains_key+in_ok-insert w ↦ subst (λ (m : Ends). IsIndexOf table (before ++ tablet ∷ []) m) (sym w.ends-is)
          (index_put table before c.loop-tablet.ends w.insert.new.self _ _ c.loop-tablet.invariant refl
          (same-true tablet.table table (sym c.eq.ensures ∙ w.if-eq.true))
          (copied-none _ (sym w.contains_key.ensures ∙ w.if-not-contains_key.true)) w.in_ok-insert.ensures.entries w.in_ok-insert.ensures.ordered)
      | else-eq w ↦ subst (λ (m : Ends). IsIndexOf table (before ++ tablet ∷ []) m) (sym w.ends-is)
          (elim w.else-eq.branch [
            | else-eq-via-then-eq+else-not-contains_key v ↦ index_left table before c.loop-tablet.ends tablet c.loop-tablet.invariant
                (λ at. copied-some _ (sym v.contains_key.ensures ∙ v.if-not-contains_key.false))
            | else-eq-via-else-eq v ↦ index_left table before c.loop-tablet.ends tablet c.loop-tablet.invariant
                (λ at. absurd (false≢true (sym v.if-eq.false ∙ c.eq.ensures ∙ same-itself tablet.table table at)))
          ])
    ])
