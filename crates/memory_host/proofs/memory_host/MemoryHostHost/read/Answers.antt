use Rattle.std.proofs.Common.{Ok, Err, length, subst}
use Rattle.memory_host.specs.Memory.{Memory, memory_state}
use Rattle.host_model.specs.declared.fault.HostFault.TheVariants.{Disk}
use Rattle.memory_host.proofs.PlanLemmas.{called, rose_at_all, called_at_all}
use Rattle.host_model.specs.Calls.{Reads}
use Rattle.memory_host.proofs.CallLemmas.{faulted, calm_asks, calm_reads, part_of}
use Rattle.memory_host.proofs.memory_host.MemoryHostHost.read.Goals as goal

pub returns-then-fails : goal.returns-then-fails
returns-then-fails c =
    subst (λ (m : Memory). Reads c.args.name.now c.args.at c.args.into.now (Err Disk) (memory_state m) (memory_state (record { known = c.self.inside.moments; script = c.self.inside.script; plan = c.fails.new.self }))) c.self.view_is
    (record { asks = calm_asks c.self.inside.moments c.self.inside.script c.self.inside.plan c.fails.new.self (called_at_all Disk c.self.inside.plan c.fails.new.self c.if-fails.ensures) (Err Disk) (record { caused = (tt, (faulted Disk c.self.inside.moments c.self.inside.moments c.self.inside.script c.self.inside.script c.self.inside.plan c.fails.new.self (called_at_all Disk c.self.inside.plan c.fails.new.self c.if-fails.ensures) (rose_at_all Disk c.self.inside.plan c.fails.new.self c.if-fails.ensures))) }); bytes = λ _. tt })

pub returns : goal.returns
returns c =
    subst (λ (m : Memory). Reads c.args.name.now c.args.at c.copy_from_slice.new.self (Ok tt) (memory_state m) (memory_state (record { known = c.self.inside.moments; script = c.self.inside.script; plan = c.fails.new.self }))) c.self.view_is
    (calm_reads c.self.inside.moments c.self.inside.script c.self.inside.plan c.fails.new.self (called c.if-fails.ensures) c.args.name.now c.args.at c.in-Some.file.now c.copy_from_slice.new.self tt c.in-Some.ensures (part_of c.in-Some.file.now c.copy_from_slice.new.self c.args.at (length c.args.into.now) c.copy_from_slice.ensures.after c.copy_from_slice.ensures.len))
