use Rattle.std.proofs.Common.{◌≡◌, ◌<◌, ◌^◌, None, IsTrue, take}
use Rattle.ground_store.specs.Acts.{Acts}
use Rattle.ground_store.specs.Steps.{Stays}
use Rattle.tablet_scan.specs.Times.{IsGreatestIn}
use Rattle.tablet_scan.proofs.times.greatest_time.Given as goal

abbrev pub invariant-loop-file : goal.invariant-loop-file
invariant-loop-file g l = record {
  looked : Acts g.H.Host.state Stays Stays None l.fn.ground l.ground;
  same : (l.ground.nodes ≡ l.fn.ground.nodes) × (l.ground.logs ≡ l.fn.ground.logs);
  greatest : IsTrue (g.H.Host.state l.fn.ground.host).is_faithful → IsGreatestIn (g.H.Host.state l.fn.ground.host).files (take l.file-index l.file-items) l.greatest;
  fits : l.greatest < 2 ^ 63;
}
