use Rattle.std.proofs.Common.{take}
use Rattle.store_meaning.specs.Marked.{layered}
use Rattle.plain_reader.specs.Puts.{PutsOver}
use Rattle.plain_reader.proofs.put.put_layers.Given as goal

abbrev pub invariant-loop-cells : goal.invariant-loop-cells
invariant-loop-cells l = PutsOver l.id (layered (take l.cells-index l.layers)) l.initial.state l.state
