use Rattle.std.proofs.Common.{None, Err, subst}
use Rattle.memory_host.specs.Memory.{Memory, memory_state}
use Rattle.host_model.specs.declared.call.HostCall.TheVariants as kinds
use Rattle.host_model.specs.declared.fault.HostFault.TheVariants.{Disk}
use Rattle.memory_host.specs.declared.plan.Turn.TheVariants.{Fails, Down}
use Rattle.memory_host.proofs.PlanLemmas.{called, rose_in_fails, rose_in_down, rose_either}
use Rattle.host_model.specs.Calls.{Replaces}
use Rattle.memory_host.proofs.CallLemmas.{works_replaces, stopped_removes, calm_replaces}
use Rattle.memory_host.proofs.memory_host.MemoryHostHost.remove.Goals as goal

pub returns-in-Works : goal.returns-in-Works
returns-in-Works c =
    subst (λ (m : Memory). Replaces kinds.Remove c.args.name.now None c.checked.result (memory_state m) (memory_state (record { known = c.put-removed.new.self; script = c.self.inside.script; plan = c.checked.new.self }))) c.self.view_is
    (works_replaces c.self.inside.moments c.put-removed.new.self c.self.inside.script c.self.inside.plan c.next.new.self c.checked.new.self c.args.name.now None c.put-removed.result c.checked.result c.in-Works.ensures c.checked.ensures c.put-removed.ensures.ok c.put-removed.ensures.err)

pub returns-in-Stops : goal.returns-in-Stops
returns-in-Stops c =
    subst (λ (m : Memory). Replaces kinds.Remove c.args.name.now None (Err Disk) (memory_state m) (memory_state (record { known = c.cut_remove.new.self; script = c.self.inside.script; plan = c.next.new.self }))) c.self.view_is
    (stopped_removes c.self.inside.moments c.cut_remove.new.self c.self.inside.script c.self.inside.plan c.next.new.self c.args.name.now c.cut_remove.result c.in-Stops.ensures c.cut_remove.ensures.ok c.cut_remove.ensures.err)

pub returns-in-Fails : goal.returns-in-Fails
returns-in-Fails c =
    subst (λ (m : Memory). Replaces kinds.Remove c.args.name.now None (Err Disk) (memory_state m) (memory_state (record { known = c.self.inside.moments; script = c.self.inside.script; plan = c.next.new.self }))) c.self.view_is
    (calm_replaces c.self.inside.moments c.self.inside.script c.self.inside.plan c.next.new.self (called c.next.ensures) c.args.name.now None Disk tt (rose_either Disk c.next.result Fails Down c.self.inside.plan c.next.new.self (rose_in_fails Disk) (rose_in_down Disk) c.in-Fails.is c.next.ensures))
