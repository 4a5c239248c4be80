use Rattle.std.proofs.Common.{Ok, Err, subst}
use Rattle.memory_host.specs.Memory.{Memory, memory_state}
use Rattle.host_model.specs.declared.fault.HostFault.TheVariants.{Disk}
use Rattle.memory_host.proofs.PlanLemmas.{called, rose_at_all, called_at_all}
use Rattle.host_model.specs.Calls.{Names}
use Rattle.host_model.specs.declared.fault.Stop.TheVariants.{Host, NoMemory}
use Rattle.memory_host.proofs.CallLemmas.{faulted, calm_names}
use Rattle.memory_host.proofs.memory_host.MemoryHostHost.names.Goals as goal
use Rattle.memory_host.proofs.memory_host.MemoryHostHost.names.Goals.{in-Ok, in-Err}

pub returns-then-fails : goal.returns-then-fails
returns-then-fails c =
    subst (λ (m : Memory). Names (Err (Host Disk)) (memory_state m) (memory_state (record { known = c.self.inside.moments; script = c.self.inside.script; plan = c.fails.new.self }))) c.self.view_is
    (calm_names c.self.inside.moments c.self.inside.script c.self.inside.plan c.fails.new.self (called_at_all Disk c.self.inside.plan c.fails.new.self c.if-fails.ensures) (Err (Host Disk)) (faulted Disk c.self.inside.moments c.self.inside.moments c.self.inside.script c.self.inside.script c.self.inside.plan c.fails.new.self (called_at_all Disk c.self.inside.plan c.fails.new.self c.if-fails.ensures) (rose_at_all Disk c.self.inside.plan c.fails.new.self c.if-fails.ensures)) tt)

pub returns : goal.returns
returns c = elim c.match-names.branch [
  | in-Ok w ↦ rw w.result-is (subst (λ (m : Memory). Names (Ok w.in-Ok.names) (memory_state m) (memory_state (record { known = c.self.inside.moments; script = c.self.inside.script; plan = c.fails.new.self }))) c.self.view_is
      (calm_names c.self.inside.moments c.self.inside.script c.self.inside.plan c.fails.new.self (called c.if-fails.ensures) (Ok w.in-Ok.names) tt w.in-Ok.ensures))
  | in-Err w ↦ rw w.result-is (subst (λ (m : Memory). Names (Err NoMemory) (memory_state m) (memory_state (record { known = c.self.inside.moments; script = c.self.inside.script; plan = c.fails.new.self }))) c.self.view_is
      (calm_names c.self.inside.moments c.self.inside.script c.self.inside.plan c.fails.new.self (called c.if-fails.ensures) (Err NoMemory) tt tt))
]
