use Rattle.std.proofs.Common.{◌∙◌}
use Rattle.tablet_mem.specs.Memory.{put}
use Rattle.hosted_writes.specs.Puts.{memory_at}
use Rattle.hosted_writes.proofs.MapLemmas.{there_between, with_new, as_it_was}
use Rattle.hosted_writes.proofs.StopLemmas.{unlogged}
use Rattle.hosted_writes.proofs.putting.put_timed.Goals as goal

pub returns-in-Err-clause-acts : goal.returns-in-Err-clause-acts
returns-in-Err-clause-acts g c = unlogged g.H.Host.state c.args.log.now c.args.mutation.now (g.met.H.Host.sound c.args.ground.now.host) c.stop.ensures.acts

pub put_back-requires : goal.put_back-requires
put_back-requires g c = there_between c.args.hosted.now c.args.tablet.now c.take_prepared.new.hosted c.in-Ok.ensures.left c.requires.there

pub put_back-requires-in-Err-log_mutation : goal.put_back-requires-in-Err-log_mutation
put_back-requires-in-Err-log_mutation g c = there_between c.args.hosted.now c.args.tablet.now c.take_prepared.new.hosted c.in-Ok.ensures.left c.requires.there

pub returns-in-Ok-log_mutation-clause-putting : goal.returns-in-Ok-log_mutation-clause-putting
returns-in-Ok-log_mutation-clause-putting g c =
    with_new c.args.hosted.now c.args.tablet.now c.take_prepared.new.hosted c.in-Ok.ensures.left c.put_back.new.hosted c.commit.result (put (memory_at c.args.hosted.now c.args.tablet.now) c.args.mutation.now)
    c.put_back.ensures (c.commit.ensures ∙ c.in-Ok.ensures.after)

pub returns-in-Err-log_mutation-clause-keeps : goal.returns-in-Err-log_mutation-clause-keeps
returns-in-Err-log_mutation-clause-keeps g c =
    as_it_was c.args.hosted.now c.args.tablet.now c.take_prepared.new.hosted c.in-Ok.ensures.left c.put_back-in-Err-log_mutation.new.hosted c.withdraw.result c.put_back-in-Err-log_mutation.ensures (c.withdraw.ensures ∙ c.in-Ok.ensures.before)
