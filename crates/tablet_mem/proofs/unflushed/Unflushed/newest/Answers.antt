use Rattle.std.proofs.Common.{◌≡◌, ◌∙◌, ◌++◌, List, Option, ℕ, true, sym, ap, subst}
use Rattle.std.specs.BTreeMap.Range.{entries_between}
use Rattle.std.specs.Map.Iter.{deref_pair}
use Rattle.std.specs.Option.{option_copied}
use Rattle.std.proofs.lemmas.List.{append-nil}
use Rattle.std.proofs.lemmas.Map.Iter.{rest_all}
use Rattle.cell_merge.specs.Newest.{IsMerged, clipped}
use Rattle.tablet_mem.specs.declared.spot.Spot.{Spot}
use Rattle.tablet_mem.specs.Index.{spot_cmp, start_of, end_of, cells_at}
use Rattle.tablet_mem.proofs.SpotLemmas.{in_order}
use Rattle.tablet_mem.proofs.RangeLemmas.{newest_between, newest_of_none}
use Rattle.tablet_mem.proofs.unflushed.Unflushed.newest.Goals as goal

pub returns-then-not-is_interval : goal.returns-then-not-is_interval
returns-then-not-is_interval c = λ index.
    subst (IsMerged (clipped (option_copied c.args.low) (option_copied c.args.high) c.args.self.now.cells.items) true) (sym c.new-newest.ensures.items)
    (newest_of_none c.args.self.now.cells.items (option_copied c.args.low) (option_copied c.args.high) (sym c.is_interval.ensures ∙ c.if-not-is_interval.true))

pub range-place-items-requires : goal.range-place-items-requires
range-place-items-requires c = rw (c.in_ok-start_of.ensures, c.in_ok-end_of.ensures) (in_order (option_copied c.args.low) (option_copied c.args.high) (sym c.is_interval.ensures ∙ c.if-not-is_interval.false))

pub returns : goal.returns
returns c = λ index.
    let low = option_copied c.args.low in
    let high = option_copied c.args.high in
    let cells = c.args.self.now.cells.items in
    let places = c.args.self.now.places in
    let done = rest_all deref_pair c.loop-place.place-iterator c.next.new.self c.next.result c.in-None.is c.next.ensures.steps in
    let all : c.loop-place.newest.items ≡ cells_at cells (entries_between spot_cmp (start_of low) (end_of high) places.entries) =
    sym (ap (λ (l : List (Spot × Option ℕ)). c.loop-place.newest.items ++ cells_at cells l) done ∙ append-nil _)
    ∙ c.loop-place.invariant
    ∙ ap (cells_at cells) (c.into_iter-place-iterator.ensures.into_iter_gives ∙ c.range-place-items.ensures.between tt)
    ∙ ap (λ p. cells_at cells (entries_between spot_cmp p c.in_ok-end_of.field-0 places.entries)) c.in_ok-start_of.ensures
    ∙ ap (λ p. cells_at cells (entries_between spot_cmp (start_of low) p places.entries)) c.in_ok-end_of.ensures in
    subst (IsMerged (clipped low high cells) true) (sym all) (newest_between cells places low high index c.range-place-items.ensures.ordered)
