use Rattle.std.proofs.Common.{◌∙◌}
use Rattle.hosted_writes.proofs.MapLemmas.{there_between, as_it_was}
use Rattle.hosted_writes.proofs.memories.take_prepared.Goals as goal

pub put_back-requires : goal.put_back-requires
put_back-requires c = there_between c.args.hosted.now c.args.tablet.now c.take-memory.new.hosted c.take-memory.ensures.left c.requires.there

pub returns-in-Err-clause-err : goal.returns-in-Err-clause-err
returns-in-Err-clause-err c =
    as_it_was c.args.hosted.now c.args.tablet.now c.take-memory.new.hosted c.take-memory.ensures.left c.put_back.new.hosted c.in-Err.memory c.put_back.ensures (c.in-Err.ensures.err ∙ c.take-memory.ensures.was)
