use Rattle.std.proofs.Common.{reverse}
use Rattle.memory_host.proofs.StepLemmas.{left_lost}
use Rattle.memory_host.proofs.crash.lost.Goals as goal

pub returns : goal.returns
returns c = left_lost c.args.files c.walk_back.new.files (reverse c.args.past.items) c.in_ok-walk_back.field-0.items c.in_ok-walk_back.ensures
