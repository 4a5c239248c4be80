use Rattle.std.proofs.Common.{◌∙◌, sym, ap, take, ◌++◌, ◌∷◌, [], map as mapped}
use Rattle.std.specs.BTreeSet.{insert_key}
use Rattle.std.specs.FinMap as map
use Rattle.std.proofs.lemmas.List.{take_more}
use Rattle.row_keys.specs.RowOrder.{bytes_cmp}
use Rattle.plain_model.specs.State.{with_points}
use Rattle.plain_model.specs.Listed.{listed, point_item}
use Rattle.plain_model.proofs.InOrder.{entries-empty}
use Rattle.plain_model.proofs.PointLemmas.{insert_key-listed, with_points-push}
use Rattle.plain_model.proofs.points.points_in_order.Goals as goal

pub loop-row-init : goal.loop-row-init
loop-row-init c = c.new-set.ensures.empty ∙ ap (mapped point_item) (sym (entries-empty (Unit {0}) bytes_cmp))

pub loop-row-preserved : goal.loop-row-preserved
loop-row-preserved c =
    let rows = take c.loop-row.row-index c.args.rows.now in
    let copied = c.in_ok-copy.ensures ∙ c.row-item.is in
    c.in_ok-insert.ensures.keys ∙ ap (λ keys. insert_key bytes_cmp keys c.in_ok-copy.field-0) c.loop-row.invariant
    ∙ insert_key-listed (with_points rows map.empty) c.in_ok-copy.field-0
    ∙ ap (listed point_item) (sym (with_points-push rows c.in_ok-copy.field-0 map.empty))
    ∙ ap (λ more. listed point_item (with_points more map.empty)) (ap (λ row. rows ++ row ∷ []) copied ∙ sym (take_more c.args.rows.now c.loop-row.row-index _ c.loop-row-test.true))
