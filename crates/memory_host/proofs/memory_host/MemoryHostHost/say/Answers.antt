use Rattle.std.proofs.Common.{Err, length, subst}
use Rattle.memory_host.specs.Memory.{Memory, memory_state}
use Rattle.host_model.specs.declared.fault.HostFault.TheVariants.{Sink}
use Rattle.memory_host.specs.declared.plan.Turn.TheVariants.{Fails, Stops}
use Rattle.memory_host.proofs.PlanLemmas.{called, rose_in_stops, rose_in_fails, rose_in_down, rose_either}
use Rattle.host_model.specs.Calls.{Says}
use Rattle.memory_host.proofs.CallLemmas.{calm_says, works_says, part_or_not, half}
use Rattle.memory_host.proofs.memory_host.MemoryHostHost.say.Goals as goal

pub returns-in-Works : goal.returns-in-Works
returns-in-Works c =
    subst (λ (m : Memory). Says c.args.bytes.now c.checked.result (memory_state m) (memory_state (record { known = c.say-said.new.self; script = c.self.inside.script; plan = c.checked.new.self }))) c.self.view_is
    (works_says c.self.inside.moments c.say-said.new.self c.self.inside.script c.self.inside.plan c.next.new.self c.checked.new.self c.args.bytes.now c.say-said.result c.checked.result c.in-Works.ensures c.checked.ensures c.say-said.ensures.ok c.say-said.ensures.err)

pub returns-in-Fails : goal.returns-in-Fails
returns-in-Fails c =
    subst (λ (m : Memory). Says c.args.bytes.now (Err Sink) (memory_state m) (memory_state (record { known = c.say.new.self; script = c.self.inside.script; plan = c.next.new.self }))) c.self.view_is
    (part_or_not c.self.inside.moments c.say.new.self c.self.inside.script c.self.inside.plan c.next.new.self (half (length c.args.bytes.now)) c.args.bytes.now c.say.result (called c.next.ensures) (rose_either Sink c.next.result Fails Stops c.self.inside.plan c.next.new.self (rose_in_fails Sink) (rose_in_stops Sink) c.in-Fails.is c.next.ensures) c.say.ensures.ok c.say.ensures.err)

pub returns-in-Down : goal.returns-in-Down
returns-in-Down c =
    subst (λ (m : Memory). Says c.args.bytes.now (Err Sink) (memory_state m) (memory_state (record { known = c.self.inside.moments; script = c.self.inside.script; plan = c.next.new.self }))) c.self.view_is
    (calm_says c.self.inside.moments c.self.inside.script c.self.inside.plan c.next.new.self (called c.next.ensures) c.args.bytes.now Sink tt (rose_in_down Sink c.self.inside.plan c.next.new.self c.in-Down.ensures))
