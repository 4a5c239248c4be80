use Rattle.std.proofs.Common.{Err, subst}
use Rattle.memory_host.specs.Memory.{Memory, memory_state}
use Rattle.host_model.specs.declared.fault.HostFault.TheVariants.{Disk}
use Rattle.memory_host.proofs.PlanLemmas.{rose_at_all, called_at_all}
use Rattle.host_model.specs.Calls.{Syncs}
use Rattle.memory_host.proofs.CallLemmas.{calm_syncs, works_syncs}
use Rattle.memory_host.proofs.memory_host.MemoryHostHost.sync.Goals as goal

pub returns-then-fails : goal.returns-then-fails
returns-then-fails c =
    subst (λ (m : Memory). Syncs c.args.name.now (Err Disk) (memory_state m) (memory_state (record { known = c.self.inside.moments; script = c.self.inside.script; plan = c.fails.new.self }))) c.self.view_is
    (calm_syncs c.self.inside.moments c.self.inside.script c.self.inside.plan c.fails.new.self (called_at_all Disk c.self.inside.plan c.fails.new.self c.if-fails.ensures) c.args.name.now Disk tt (rose_at_all Disk c.self.inside.plan c.fails.new.self c.if-fails.ensures))

pub returns : goal.returns
returns c =
    subst (λ (m : Memory). Syncs c.args.name.now c.checked.result (memory_state m) (memory_state (record { known = c.sync-synced.new.self; script = c.self.inside.script; plan = c.checked.new.self }))) c.self.view_is
    (works_syncs c.self.inside.moments c.sync-synced.new.self c.self.inside.script c.self.inside.plan c.fails.new.self c.checked.new.self c.args.name.now c.sync-synced.result c.checked.result c.if-fails.ensures c.checked.ensures c.sync-synced.ensures.ok c.sync-synced.ensures.err)
