use Rattle.tablet_scan.proofs.PutLemmas.{memory_put, memory_aside, memory_unnamed, memory_cleared}
use Rattle.tablet_scan.proofs.laws.a_memory_follows_its_logs.Goals as goal

pub returns : goal.returns
returns c = record { put = memory_put; elsewhere = memory_aside; unnamed = memory_unnamed; flushed = memory_cleared }
