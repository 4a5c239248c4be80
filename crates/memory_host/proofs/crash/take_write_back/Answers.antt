use Rattle.std.proofs.Common.{sym, ◌∙◌}
use Rattle.std.specs.Ordering.{nat_cmp}
use Rattle.std.specs.Cmp.Lexicographic.{slice_cmp}
use Rattle.std.specs.BTreeSet.{contains}
use Rattle.memory_host.proofs.StepLemmas.{settled_write, unsettled_write}
use Rattle.memory_host.proofs.crash.take_write_back.Goals as goal

pub returns-then-contains : goal.returns-then-contains
returns-then-contains c = settled_write c.args.written (contains (slice_cmp nat_cmp) c.args.settled.now) c.args.files.now c.args.taken.now.items (sym c.contains.ensures ∙ c.if-contains.true)

pub returns : goal.returns
returns c = unsettled_write c.args.written (contains (slice_cmp nat_cmp) c.args.settled.now) c.args.files.now c.take_back.new.self c.args.taken.now.items c.push.new.self.items (sym c.contains.ensures ∙ c.if-contains.false) c.in_ok-take_back.ensures c.in_ok-push.ensures.items
