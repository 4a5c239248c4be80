use Rattle.std.proofs.Common.{◌≡◌, ◌∙◌, sym, ap, subst, Some, Option}
use Rattle.std.specs.BTreeMap.{ContainsKey}
use Rattle.std.specs.Option.{option_copied}
use Rattle.std.proofs.lemmas.Bool.{ltb-true, ltb-false, false≢true}
use Rattle.cell_merge.specs.declared.cell.Cell.{Cell}
use Rattle.cell_merge.specs.Newest.{latest}
use Rattle.cell_merge.proofs.IndexLemmas.{IsEarlier, IsNoEarlier}
use Rattle.tablet_mem.specs.declared.spot.Spot.{Spot}
use Rattle.tablet_mem.specs.Index.{Places, spot_cmp, place_at, cell_at, IsIndexOf}
use Rattle.tablet_mem.proofs.IndexLemmas.{index_put_at, index_left, set_kept, must_be, not_none}
use Rattle.tablet_mem.proofs.unflushed.count_one.Goals.{in-Some, in-None, then-counts, else-counts}
use Rattle.tablet_mem.proofs.unflushed.count_one.Goals as goal

pub returns-clause-kept : goal.returns-clause-kept
returns-clause-kept c = λ other there. elim c.if-counts.branch [
  | then-counts w ↦ subst (λ (m : Places). ContainsKey spot_cmp m other) (sym w.places-is)
      (set_kept c.args.places.now w.insert.new.self c.args.one.spot (Some w.len.result)
      (must_be w.insert.result w.insert.ensures.updates w.insert.ensures.absent (not_none _ c.requires.ready.placed)).0 other there)
  | else-counts w ↦ subst (λ (m : Places). ContainsKey spot_cmp m other) (sym w.places-is) there
]

pub returns-clause-index : goal.returns-clause-index
returns-clause-index c = λ index.
    let cell = c.args.one.cell in
    let cells = c.args.cells.now.items in
    let found : option_copied c.newest_of.result ≡ latest cells cell.key =
    c.newest_of.ensures ∙ ap (λ (l : _). cell_at l (place_at c.args.places.now c.args.one.spot)) c.deref.ensures.value ∙ ap (λ (s : Spot). cell_at cells (place_at c.args.places.now s)) c.requires.ready.own ∙ index.latest_at cell.key in
    elim c.if-counts.branch [
      | then-counts w ↦ subst (IsIndexOf _) (sym w.places-is)
          (index_put_at cells c.args.places.now w.insert.new.self cell c.args.one.spot w.len.result c.requires.ready.own (w.len.ensures ∙ c.args.cells.now.ok.0) index
          (must_be w.insert.result w.insert.ensures.updates w.insert.ensures.absent (not_none _ c.requires.ready.placed)).0
          (elim c.match-newest_of.branch [
            | in-Some v ↦ subst (λ (o : Option Cell). IsEarlier o cell) (sym (ap option_copied v.in-Some.is) ∙ found) (ltb-true _ _ (sym v.counts-is ∙ w.if-counts.true))
            | in-None v ↦ subst (λ (o : Option Cell). IsEarlier o cell) (sym (ap option_copied v.in-None.is) ∙ found) tt
          ]))
      | else-counts w ↦ subst (IsIndexOf _) (sym w.places-is)
          (index_left cells c.args.places.now cell index
          (elim c.match-newest_of.branch [
            | in-Some v ↦ subst (λ (o : Option Cell). IsNoEarlier o cell) (sym (ap option_copied v.in-Some.is) ∙ found) (ltb-false _ _ (sym v.counts-is ∙ w.if-counts.false))
            | in-None v ↦ absurd (false≢true (sym w.if-counts.false ∙ v.counts-is))
          ]))
    ]
