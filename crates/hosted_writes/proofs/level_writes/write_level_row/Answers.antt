use Rattle.hosted_writes.specs.Puts.{mutation_at}
use Rattle.hosted_writes.proofs.StopLemmas.{unlogged}
use Rattle.hosted_writes.proofs.level_writes.write_level_row.Goals as goal

pub returns-in-Err-clause-acts : goal.returns-in-Err-clause-acts
returns-in-Err-clause-acts g c =
    unlogged g.H.Host.state c.args.log.now (mutation_at c.args.hosted.now c.args.holder.now c.args.write) (g.met.H.Host.sound c.args.ground.now.host) c.stop.ensures.acts
