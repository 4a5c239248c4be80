use Rattle.std.proofs.Common.{Err, length, subst, sym, refl}
use Rattle.memory_host.specs.Memory.{Memory, memory_state}
use Rattle.host_model.specs.declared.fault.HostFault.TheVariants.{Disk}
use Rattle.memory_host.specs.declared.plan.Turn.TheVariants.{Fails, Stops}
use Rattle.memory_host.proofs.PlanLemmas.{called, rose_in_stops, rose_in_fails, rose_in_down, rose_either}
use Rattle.host_model.specs.Calls.{Writes, Reaches}
use Rattle.memory_host.proofs.CallLemmas.{calm_writes, works_writes, torn_or_not, half_fits, half}
use Rattle.memory_host.proofs.memory_host.MemoryHostHost.write.Goals as goal

pub returns-in-Works : goal.returns-in-Works
returns-in-Works c =
    subst (λ (m : Memory). Writes c.args.name.now c.args.at c.args.bytes.now c.checked.result (memory_state m) (memory_state (record { known = c.write-written.new.self; script = c.self.inside.script; plan = c.checked.new.self }))) c.self.view_is
    (works_writes c.self.inside.moments c.write-written.new.self c.self.inside.script c.self.inside.plan c.next.new.self c.checked.new.self c.args.name.now c.args.at c.args.bytes.now c.write-written.result c.checked.result c.in-Works.ensures c.checked.ensures c.write-written.ensures.ok c.write-written.ensures.err (subst (λ (m : Memory). Reaches m.known.now.image c.args.name.now c.args.at) (sym c.self.view_is) (c.requires refl)))

pub returns-in-Fails : goal.returns-in-Fails
returns-in-Fails c =
    subst (λ (m : Memory). Writes c.args.name.now c.args.at c.args.bytes.now (Err Disk) (memory_state m) (memory_state (record { known = c.write.new.self; script = c.self.inside.script; plan = c.next.new.self }))) c.self.view_is
    (torn_or_not c.self.inside.moments c.write.new.self c.self.inside.script c.self.inside.plan c.next.new.self c.args.name.now c.args.at (half (length c.args.bytes.now)) c.args.bytes.now c.write.result (called c.next.ensures) (rose_either Disk c.next.result Fails Stops c.self.inside.plan c.next.new.self (rose_in_fails Disk) (rose_in_stops Disk) c.in-Fails.is c.next.ensures) c.write.ensures.ok c.write.ensures.err (half_fits (length c.args.bytes.now)) (subst (λ (m : Memory). Reaches m.known.now.image c.args.name.now c.args.at) (sym c.self.view_is) (c.requires refl)))

pub returns-in-Down : goal.returns-in-Down
returns-in-Down c =
    subst (λ (m : Memory). Writes c.args.name.now c.args.at c.args.bytes.now (Err Disk) (memory_state m) (memory_state (record { known = c.self.inside.moments; script = c.self.inside.script; plan = c.next.new.self }))) c.self.view_is
    (calm_writes c.self.inside.moments c.self.inside.script c.self.inside.plan c.next.new.self (called c.next.ensures) c.args.name.now c.args.at c.args.bytes.now Disk tt (rose_in_down Disk c.self.inside.plan c.next.new.self c.in-Down.ensures) (subst (λ (m : Memory). Reaches m.known.now.image c.args.name.now c.args.at) (sym c.self.view_is) (c.requires refl)))
