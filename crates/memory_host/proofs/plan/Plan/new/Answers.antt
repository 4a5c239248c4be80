use Rattle.std.proofs.Common.{arith}
use Rattle.std.proofs.lemmas.Grind.{common_steps}
use Rattle.std.proofs.lemmas.List.Folds.{list_any-append}
use Rattle.memory_host.proofs.plan.Plan.new.Goals as goal

pub loop-call-preserved : goal.loop-call-preserved
loop-call-preserved c = λ call. grind (arith, common_steps, list_any-append, c.loop-call.invariant call)
