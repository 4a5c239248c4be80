use Rattle.level_scan.proofs.CauseLemmas.{answered}
use Rattle.level_scan.proofs.stopping.stop_ground.Goals as goal

pub returns-clause-is : goal.returns-clause-is
returns-clause-is g c = answered c.args.fault c.stop_for.result c.stop.result c.stop_for.ensures.is c.stop.ensures.again
