use Rattle.std.proofs.Common.{refl}
use Rattle.tablet_scan.proofs.BehindLemmas.{acts_behind, alive_behind}
use Rattle.level_scan.proofs.levels.chain_level.Goals as goal

pub stop_ground-requires : goal.stop_ground-requires
stop_ground-requires g c = alive_behind g.H.Host.state c.in_ok-cells.ensures.acts

pub returns-clause-acts : goal.returns-clause-acts
returns-clause-acts g c = acts_behind g.H.Host.state (g.met.H.Host.sound c.args.ground.now.host) (λ i. refl) c.in_ok-cells.ensures.acts c.stop_ground.ensures.acts
