use Rattle.std.proofs.Common.{List, [], ℕ, Some, subst}
use Rattle.host_model.specs.declared.call.HostCall.TheVariants as kinds
use Rattle.host_model.specs.Calls.{Replaces}
use Rattle.memory_host.specs.Quiet.{Quiet, quiet_state}
use Rattle.memory_host.proofs.QuietLemmas.{quiet_replaces}
use Rattle.memory_host.proofs.quiet_host.QuietHostHost.create.Goals as goal

pub returns : goal.returns
returns c =
    let before : Quiet = record { files = c.self.inside.files; said = c.self.inside.said.items; script = c.self.inside.script; memory = c.self.inside.memory_faults; found = c.self.inside.found; last = c.self.inside.last } in
    let after : Quiet = record { files = c.replace-made.new.self; said = c.self.inside.said.items; script = c.self.inside.script; memory = c.checked.new.faults; found = c.self.inside.memory_faults; last = Some kinds.Create } in
    subst (λ (q : Quiet). Replaces kinds.Create c.args.name.now (Some []) c.checked.result (quiet_state q) (quiet_state after)) c.self.view_is
    (subst (λ (l : List ℕ). Replaces kinds.Create c.args.name.now (Some l) c.checked.result (quiet_state before) (quiet_state after)) c.new-empty.ensures.items
    (quiet_replaces kinds.Create before c.replace-made.new.self c.checked.new.faults c.args.name.now (Some c.new-empty.result.items) c.replace-made.result c.checked.result c.checked.ensures c.replace-made.ensures.ok c.replace-made.ensures.err))
