use Rattle.std.proofs.Common.{◌∙◌, ◌++◌, Some, sym, ap}
use Rattle.store_meaning.specs.Content.{file_cells}
use Rattle.state_reader.specs.Still.{ground_of}
use Rattle.state_reader.proofs.ToldMore.{told_more, untold}
use Rattle.state_reader.proofs.tablet_cells.cells_of_files.Goals as goal

pub loop-file-preserved : goal.loop-file-preserved
loop-file-preserved c =
    told_more (file_cells (ground_of c.args.still.now)) c.args.files.now c.loop-file.file-index c.file-item.result c.loop-file.all.items c.in-Some.cells c.loop-file-test.true c.file-item.is c.loop-file.invariant (sym c.in_ok-cells.ensures ∙ c.in-Some.is)
    ∙ ap Some (sym (c.in_ok-append.ensures.items ∙ ap (λ l. c.loop-file.all.items ++ l) c.into_vec.ensures))

pub returns-in_default : goal.returns-in_default
returns-in_default c = sym (untold (file_cells (ground_of c.args.still.now)) c.args.files.now c.file-item.result (c.loop-file.file-index, c.loop-file-test.true, sym c.file-item.is) (sym c.in_ok-cells.ensures ∙ c.in_default.is))
