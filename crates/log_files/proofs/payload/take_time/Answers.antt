use Rattle.log_files.proofs.MutationLemmas.{late_time}
use Rattle.log_files.proofs.payload.take_time.Goals as goal

pub returns-then-time-ge-END_OF_TIME : goal.returns-then-time-ge-END_OF_TIME
returns-then-time-ge-END_OF_TIME c = late_time c.args.bytes.now c.in-Ok.time.value c.in-Ok.time.rest.now c.in-Ok.ensures.ok c.in-Ok.ensures.fits c.if-time-ge-END_OF_TIME.true
