use Rattle.std.proofs.Common.{List, [], refl, subst}
use Rattle.std.proofs.lemmas.List.{take_all}
use Rattle.cell_merge.specs.declared.cell.Cell.{Cell}
use Rattle.store_meaning.specs.Marked.{layered}
use Rattle.plain_reader.specs.Puts.{put_over, PutsOver}
use Rattle.plain_reader.proofs.PutLemmas.{puts_begun, puts_layer}
use Rattle.plain_reader.proofs.put.put_layers.Goals as goal

pub loop-cells-init : goal.loop-cells-init
loop-cells-init c = puts_begun c.args.id.now (layered []) c.args.state.now (λ key below. refl) c.requires

pub loop-cells-preserved : goal.loop-cells-preserved
loop-cells-preserved c =
    let put = subst (λ (l : List Cell). PutsOver c.args.id.now (put_over l) c.loop-cells.state c.put_cells.new.state) c.as_slice.ensures c.in_ok-put_cells.ensures in
    puts_layer c.args.id.now c.args.layers.now c.loop-cells.cells-index c.cells-item.result c.args.state.now c.loop-cells.state c.put_cells.new.state c.loop-cells-test.true c.cells-item.is c.loop-cells.invariant put

pub returns : goal.returns
returns c =
    subst (λ (l : List (List Cell)). PutsOver c.args.id.now (layered l) c.args.state.now c.loop-cells.state) (take_all c.loop-cells.cells-index c.args.layers.now c.loop-cells-test.false) c.loop-cells.invariant
