use Rattle.std.proofs.Common.{◌≡◌, None, IsTrue, take}
use Rattle.level_rows.specs.Chain.{rows_of}
use Rattle.ground_store.specs.Acts.{Acts}
use Rattle.ground_store.specs.Steps.{Stays}
use Rattle.hosted_memories.specs.Hosted.{memories_of}
use Rattle.level_scan.specs.Tablets.{AreHosted, HoldTablets}
use Rattle.level_scan.proofs.cells.chain_cells.Given as goal

abbrev pub invariant-loop-tablet : goal.invariant-loop-tablet
invariant-loop-tablet g l = record {
  looked : Acts g.H.Host.state Stays Stays None l.fn.ground l.ground;
  same : (l.ground.nodes ≡ l.fn.ground.nodes) × (l.ground.logs ≡ l.fn.ground.logs);
  hosted : AreHosted (memories_of l.memories) (take l.tablet-index l.chain);
  holds : IsTrue (g.H.Host.state l.fn.ground.host).is_faithful → HoldTablets (g.H.Host.state l.fn.ground.host).files (rows_of l.table l.records) (memories_of l.memories) (take l.tablet-index l.chain) l.all.items;
}
