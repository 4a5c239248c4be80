use Rattle.std.proofs.Common.{◌≡◌, None, IsTrue, take}
use Rattle.ground_store.specs.Acts.{Acts}
use Rattle.ground_store.specs.Steps.{Stays}
use Rattle.tablet_scan.specs.Files.{HoldAll}
use Rattle.tablet_scan.proofs.files.file_cells.Given as goal

abbrev pub invariant-loop-file : goal.invariant-loop-file
invariant-loop-file g l = record {
  looked : Acts g.H.Host.state Stays Stays None l.fn.ground l.ground;
  same : (l.ground.nodes ≡ l.fn.ground.nodes) × (l.ground.logs ≡ l.fn.ground.logs);
  holds : IsTrue (g.H.Host.state l.fn.ground.host).is_faithful → HoldAll (g.H.Host.state l.fn.ground.host).files (take l.file-index l.file-items) l.all.items;
}
