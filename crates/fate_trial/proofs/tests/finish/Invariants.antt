use Rattle.memory_host.specs.Memory.{memory_state}
use Rattle.fate_trial.specs.Site.{GoesOn}
use Rattle.fate_trial.proofs.tests.finish.Given as goal

abbrev pub invariant-loop : goal.invariant-loop
invariant-loop l = GoesOn memory_state l.site
