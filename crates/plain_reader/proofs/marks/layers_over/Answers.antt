use Rattle.std.proofs.Common.{◌∙◌, ◌++◌, [], ◌∷◌, Some, sym, ap}
use Rattle.std.specs.Option.{option_copied, option_map}
use Rattle.level_rows.specs.Chain.{rows_of}
use Rattle.store_meaning.specs.Marked.{cells_within, layer_of}
use Rattle.state_reader.specs.Still.{ground_of}
use Rattle.state_reader.proofs.ToldMore.{told_more}
use Rattle.plain_reader.proofs.marks.layers_over.Goals as goal

pub loop-path-preserved : goal.loop-path-preserved
loop-path-preserved c =
    let rows = rows_of c.args.table.now c.args.records.now in
    let tablets = c.args.tablets.now in
    let within = c.in_ok-within.ensures ∙ ap (cells_within rows tablets) c.as_slice.ensures in
    let told = ap (option_map (λ cells. cells_within rows tablets cells ∷ [])) (sym c.get.ensures ∙ ap option_copied c.in-Some.is) in
    told_more (layer_of (ground_of c.args.still.now) rows tablets) c.args.paths.now c.loop-path.path-index c.path-item.result c.loop-path.layers.items (cells_within rows tablets c.in-Some.cells.now ∷ []) c.loop-path-test.true c.path-item.is c.loop-path.invariant told
    ∙ ap Some (sym (c.in_ok-push_item.ensures ∙ ap (λ l. c.loop-path.layers.items ++ l ∷ []) (c.from_vec.ensures ∙ within)))
