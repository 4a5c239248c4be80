use Rattle.std.proofs.Common.{ℕ, Option, Some, None, Ok, Err, length, subst}
use Rattle.memory_host.specs.Memory.{Memory, memory_state}
use Rattle.host_model.specs.declared.call.HostCall.TheVariants as kinds
use Rattle.host_model.specs.declared.fault.HostFault.TheVariants.{Disk}
use Rattle.memory_host.proofs.PlanLemmas.{called, rose_at_all, called_at_all}
use Rattle.host_model.specs.Calls.{Asks}
use Rattle.memory_host.proofs.CallLemmas.{faulted, calm_asks}
use Rattle.memory_host.proofs.memory_host.MemoryHostHost.length.Goals as goal
use Rattle.memory_host.proofs.memory_host.MemoryHostHost.length.Goals.{in-Some, in-None}

pub returns-then-fails-clause-asks : goal.returns-then-fails-clause-asks
returns-then-fails-clause-asks c =
    subst (λ (m : Memory). Asks kinds.Length {T = Option ℕ} (Err Disk) (memory_state m) (memory_state (record { known = c.self.inside.moments; script = c.self.inside.script; plan = c.fails.new.self }))) c.self.view_is
    (calm_asks c.self.inside.moments c.self.inside.script c.self.inside.plan c.fails.new.self (called_at_all Disk c.self.inside.plan c.fails.new.self c.if-fails.ensures) (Err Disk) (record { caused = (tt, (faulted Disk c.self.inside.moments c.self.inside.moments c.self.inside.script c.self.inside.script c.self.inside.plan c.fails.new.self (called_at_all Disk c.self.inside.plan c.fails.new.self c.if-fails.ensures) (rose_at_all Disk c.self.inside.plan c.fails.new.self c.if-fails.ensures))) }))

pub returns-clause-asks : goal.returns-clause-asks
returns-clause-asks c =
    let asks = λ (result : Option ℕ). subst (λ (m : Memory). Asks kinds.Length {T = Option ℕ} (Ok result) (memory_state m) (memory_state (record { known = c.self.inside.moments; script = c.self.inside.script; plan = c.fails.new.self }))) c.self.view_is
    (calm_asks c.self.inside.moments c.self.inside.script c.self.inside.plan c.fails.new.self (called c.if-fails.ensures) (Ok result) (record { caused = tt })) in
    elim c.match-get.branch [ in-Some w ↦ rw (w.self-inside-is, w.result-is) (asks (Some (length w.in-Some.file.now))) | in-None w ↦ rw (w.self-inside-is, w.result-is) (asks None) ]
