use Rattle.std.proofs.Common.{◌≡◌, ◌∙◌, ◌++◌, sym, ap, subst}
use Rattle.cell_merge.specs.Newest.{clipped}
use Rattle.level_rows.specs.Chain.{rows_of, effective_prev}
use Rattle.plain_reader.proofs.PartLemmas.{within_more}
use Rattle.plain_reader.proofs.marks.cells_within.Goals as goal

pub loop-tablet-preserved : goal.loop-tablet-preserved
loop-tablet-preserved c =
    let records = c.args.records.now in
    let cells = c.args.cells.now in
    let tablet = c.tablet-item.result in
    let rows = rows_of c.args.table.now records in
    let table = c.requires.each tablet (c.loop-tablet.tablet-index, c.loop-tablet-test.true, sym c.tablet-item.is) in
    let inside = subst (λ id. c.in_ok-cells_inside.field-0.items ≡ clipped (effective_prev (rows_of id records) tablet) tablet.end cells) table c.in_ok-cells_inside.ensures in
    c.in_ok-append.ensures.items ∙ ap (λ l. c.loop-tablet.within.items ++ l) inside ∙ ap (λ l. l ++ clipped (effective_prev rows tablet) tablet.end cells) c.loop-tablet.invariant
    ∙ sym (within_more rows c.args.tablets.now c.loop-tablet.tablet-index tablet cells c.loop-tablet-test.true c.tablet-item.is)
