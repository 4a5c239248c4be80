use Rattle.memory_host.proofs.MemoryLemmas.{starts}
use Rattle.memory_host.proofs.memory_host.MemoryHost.start.Goals as goal

pub returns : goal.returns
returns c = starts c.args.files c.args.script.now c.args.failing.now c.args.stop c.new.result c.in_ok-new.field-0 c.in_ok-new-2.field-0 c.new.ensures c.in_ok-new.ensures c.in_ok-new-2.ensures
