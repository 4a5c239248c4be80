use Rattle.std.proofs.Common.{Some, sym, ap}
use Rattle.store_meaning.specs.Content.{timed}
use Rattle.tablet_scan.proofs.FilesLemmas.{set_next}
use Rattle.tablet_scan.proofs.files.set_times.Goals as goal

pub loop-cell-preserved : goal.loop-cell-preserved
loop-cell-preserved c = set_next (timed (Some c.args.time)) c.args.cells.now c.loop-cell.cells c.loop-cell.cell-index c.cell-item.result _ c.loop-cell-test.true c.loop-cell.invariant c.cell-item.is (ap (timed (Some c.args.time)) (sym c.cell-item.is))
