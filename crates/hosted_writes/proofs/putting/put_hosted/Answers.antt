use Rattle.hosted_writes.specs.Puts.{mutation_at}
use Rattle.hosted_writes.proofs.StopLemmas.{unlogged}
use Rattle.hosted_writes.proofs.putting.put_hosted.Goals as goal

pub returns-then-time-ge-END_OF_TIMES-clause-acts : goal.returns-then-time-ge-END_OF_TIMES-clause-acts
returns-then-time-ge-END_OF_TIMES-clause-acts g c =
    unlogged g.H.Host.state c.args.log.now (mutation_at c.args.hosted.now c.args.tablet.now c.args.write) (g.met.H.Host.sound c.args.ground.now.host) c.stop.ensures.acts
