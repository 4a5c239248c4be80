use Rattle.std.proofs.Common.{Some, refl, sym, subst}
use Rattle.host_model.specs.declared.call.HostCall.TheVariants as kinds
use Rattle.host_model.specs.Calls.{Writes, Reaches}
use Rattle.memory_host.specs.Quiet.{Quiet, quiet_state}
use Rattle.memory_host.proofs.QuietLemmas.{quiet_writes}
use Rattle.memory_host.proofs.quiet_host.QuietHostHost.write.Goals as goal

pub returns : goal.returns
returns c =
    let before : Quiet = record { files = c.self.inside.files; said = c.self.inside.said.items; script = c.self.inside.script; memory = c.self.inside.memory_faults; found = c.self.inside.found; last = c.self.inside.last } in
    let after : Quiet = record { files = c.write-written.new.self; said = c.self.inside.said.items; script = c.self.inside.script; memory = c.checked.new.faults; found = c.self.inside.memory_faults; last = Some kinds.Write } in
    subst (λ (q : Quiet). Writes c.args.name.now c.args.at c.args.bytes.now c.checked.result (quiet_state q) (quiet_state after)) c.self.view_is
    (quiet_writes before c.write-written.new.self c.checked.new.faults c.args.name.now c.args.at c.args.bytes.now c.write-written.result c.checked.result (subst (λ (q : Quiet). Reaches q.files c.args.name.now c.args.at) (sym c.self.view_is) (c.requires refl)) c.checked.ensures c.write-written.ensures.ok c.write-written.ensures.err)
