use Rattle.std.proofs.Common.{reverse}
use Rattle.memory_host.proofs.StepLemmas.{left_ones}
use Rattle.memory_host.proofs.crash.with_ones.Goals as goal

pub returns : goal.returns
returns c = left_ones c.args.files c.walk_back.new.files c.fill_back.new.files (reverse c.args.past.items) c.in_ok-taken.taken.items c.in_ok-taken.ensures c.in_ok-fill_back.ensures
