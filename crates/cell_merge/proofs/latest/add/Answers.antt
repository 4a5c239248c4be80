use Rattle.std.proofs.Common.{◌∙◌, sym, subst, refl, Option, Bor}
use Rattle.std.specs.Option.{option_copied}
use Rattle.std.proofs.lemmas.Bool.{ltb-true, ltb-false, false≢true}
use Rattle.cell_merge.specs.declared.cell.Cell.{Cell}
use Rattle.cell_merge.proofs.IndexLemmas.{index_put, index_left, IsEarlier, IsNoEarlier}
use Rattle.cell_merge.proofs.latest.add.Goals.{in-Some, in-None}
use Rattle.cell_merge.proofs.latest.add.Goals as goal

pub returns-in_ok-insert : goal.returns-in_ok-insert
returns-in_ok-insert c = λ cells index. index_put cells c.args.latest.now c.insert.new.self _ c.args.cell index refl c.in_ok-insert.ensures.entries c.in_ok-insert.ensures.ordered
    (subst (λ o. IsEarlier o c.args.cell.now) (index.latest_at c.args.cell.now.key)
    (elim c.match-get.branch [
      | in-Some w ↦ subst (λ (o : Option (Bor Cell)). IsEarlier (option_copied o) c.args.cell.now) w.in-Some.ensures.value (ltb-true _ _ (sym w.counts-is ∙ c.if-counts.true))
      | in-None w ↦ subst (λ (o : Option (Bor Cell)). IsEarlier (option_copied o) c.args.cell.now) w.in-None.ensures.value tt
    ]))

pub returns-else-counts : goal.returns-else-counts
returns-else-counts c = λ cells index. index_left cells c.args.latest.now c.args.cell.now index
    (subst (λ o. IsNoEarlier o c.args.cell.now) (index.latest_at c.args.cell.now.key)
    (elim c.match-get.branch [
      | in-Some w ↦ subst (λ (o : Option (Bor Cell)). IsNoEarlier (option_copied o) c.args.cell.now) w.in-Some.ensures.value (ltb-false _ _ (sym w.counts-is ∙ c.if-counts.false))
      | in-None w ↦ absurd (false≢true (sym c.if-counts.false ∙ w.counts-is))
    ]))
