use Rattle.std.proofs.Common.{Ok, Err, subst}
use Rattle.memory_host.specs.Memory.{Memory, memory_state}
use Rattle.host_model.specs.declared.fault.HostFault.TheVariants.{Source}
use Rattle.memory_host.proofs.PlanLemmas.{called, rose_at_all, called_at_all}
use Rattle.host_model.specs.Calls.{Hears}
use Rattle.memory_host.proofs.CallLemmas.{calm_hears, heard_hears}
use Rattle.memory_host.proofs.memory_host.MemoryHostHost.hear.Goals as goal

pub returns-then-fails : goal.returns-then-fails
returns-then-fails c =
    subst (λ (m : Memory). Hears c.args.into.now (Err Source) (memory_state m) (memory_state (record { known = c.self.inside.moments; script = c.self.inside.script; plan = c.fails.new.self }))) c.self.view_is
    (calm_hears c.self.inside.moments c.self.inside.script c.self.inside.plan c.fails.new.self (called_at_all Source c.self.inside.plan c.fails.new.self c.if-fails.ensures) c.args.into.now Source tt (rose_at_all Source c.self.inside.plan c.fails.new.self c.if-fails.ensures))

pub returns : goal.returns
returns c =
    subst (λ (m : Memory). Hears c.hear.new.into (Ok c.hear.result) (memory_state m) (memory_state (record { known = c.self.inside.moments; script = c.hear.new.self; plan = c.fails.new.self }))) c.self.view_is
    (heard_hears c.self.inside.moments c.self.inside.script c.self.inside.plan c.fails.new.self (called c.if-fails.ensures) c.hear.new.into c.hear.new.self c.hear.result c.hear.ensures)
