use Rattle.std.proofs.Common.{◌∙◌, ℕ, List, Option, All, ap, subst}
use Rattle.std.proofs.lemmas.List.{take_all}
use Rattle.row_keys.specs.MetadataRow.{metadata_row}
use Rattle.level_cache.specs.Down.{IsLive}
use Rattle.level_cache.proofs.DownLemmas.{one_more, first_here}
use Rattle.level_cache.proofs.down.first_away.Goals as goal

pub loop-tablet-preserved : goal.loop-tablet-preserved
loop-tablet-preserved c =
    one_more c.args.servers.now c.args.tablets.now c.loop-tablet.tablet-index c.tablet-item.result c.loop-tablet-test.true c.tablet-item.is c.loop-tablet.invariant (rw c.in_default.is at c.in_ok-place.ensures)

pub returns-in-Some : goal.returns-in-Some
returns-in-Some c =
    first_here c.args.servers.now c.args.tablets.now c.loop-tablet.tablet-index c.tablet-item.result c.loop-tablet-test.true c.tablet-item.is c.loop-tablet.invariant
    c.in_ok-row.row c.in-Some.place (c.in_ok-row.ensures ∙ ap (λ (end : Option (List ℕ)). metadata_row c.tablet-item.result.table end) c.as_ref.ensures.value) (rw c.in-Some.is at c.in_ok-place.ensures)

pub returns : goal.returns
returns c = subst (All (IsLive c.args.servers.now)) (take_all c.loop-tablet.tablet-index c.args.tablets.now c.loop-tablet-test.false) c.loop-tablet.invariant
