use Rattle.std.proofs.Common.{sym, ◌∙◌}
use Rattle.std.specs.Ordering.{nat_cmp}
use Rattle.std.specs.Cmp.Lexicographic.{slice_cmp}
use Rattle.std.specs.BTreeSet.{contains}
use Rattle.memory_host.proofs.StepLemmas.{settled_removal, unsettled_removal}
use Rattle.memory_host.proofs.crash.put_back.Goals as goal

pub returns-then-contains : goal.returns-then-contains
returns-then-contains c = λ taken. settled_removal c.args.name c.args.was (contains (slice_cmp nat_cmp) c.args.settled.now) c.args.files.now taken (sym c.contains.ensures ∙ c.if-contains.true)

pub returns : goal.returns
returns c = λ taken. unsettled_removal c.args.name c.args.was (contains (slice_cmp nat_cmp) c.args.settled.now) c.args.files.now c.insert.new.self taken (sym c.contains.ensures ∙ c.if-contains.false) c.in_ok-insert.ensures.ok.0
