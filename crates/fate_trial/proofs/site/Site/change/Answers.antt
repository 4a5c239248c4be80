use Rattle.std.proofs.Common.{◌≡◌, ◌∙◌, Err, refl, ap}
use Rattle.host_model.specs.declared.fault.Stop.TheVariants.{Host, Full, NoMemory}
use Rattle.fate_trial.proofs.SiteLemmas.{acts_made, acts_failed}
use Rattle.node_store.specs.declared.changes.NodeStop.TheVariants.{Stop}
use Rattle.fate_trial.proofs.StopLemmas.{full_code, has_room}
use Rattle.fate_trial.proofs.site.Site.change.Goals as goal

pub returns-in-Ok-clause-acts : goal.returns-in-Ok-clause-acts
returns-in-Ok-clause-acts g c = acts_made c.args.ops.now c.args.self.now.nodes c.requires.live.named (g.met.H.Host.sound c.args.self.now.host) (c.requires.live.stored c.requires.runs) tt c.in-Ok.ensures.alters

pub returns-in-Err-Stop-Host-clause-acts : goal.returns-in-Err-Stop-Host-clause-acts
returns-in-Err-Stop-Host-clause-acts g c = acts_failed c.args.ops.now c.args.self.now.nodes c.requires.live.named (g.met.H.Host.sound c.args.self.now.host) (c.requires.live.stored c.requires.runs) (Host c.in-Err-Stop-Host.fault) c.in-Err-Stop-Host.ensures.alters

pub returns-in-Err-Stop-Full-clause-acts : goal.returns-in-Err-Stop-Full-clause-acts
returns-in-Err-Stop-Full-clause-acts g c = acts_failed c.args.ops.now c.args.self.now.nodes c.requires.live.named (g.met.H.Host.sound c.args.self.now.host) (c.requires.live.stored c.requires.runs) Full c.in-Err-Stop-Full.ensures.alters

pub returns-in-Err-Stop-NoMemory-clause-acts : goal.returns-in-Err-Stop-NoMemory-clause-acts
returns-in-Err-Stop-NoMemory-clause-acts g c = acts_failed c.args.ops.now c.args.self.now.nodes c.requires.live.named (g.met.H.Host.sound c.args.self.now.host) (c.requires.live.stored c.requires.runs) NoMemory c.in-Err-Stop-NoMemory.ensures.alters

pub returns-in-Ok-clause-full : goal.returns-in-Ok-clause-full
returns-in-Ok-clause-full g c = λ full. absurd (has_room (c.in-Ok.ensures.due (Stop Full) full) refl)

pub returns-in-Err-Stop-Host-clause-full : goal.returns-in-Err-Stop-Host-clause-full
returns-in-Err-Stop-Host-clause-full g c =
    λ full. let due = c.in-Err-Stop-Host.ensures.due (Stop Full) full in
    let other : full_code {T = Unit {0}} (Err c.in-Err-Stop-Host.field-0) ≡ 0 = ap (λ s. full_code {T = Unit {0}} (Err s)) c.in-Err-Stop-Host.field-0-is ∙ ap (λ s. full_code {T = Unit {0}} (Err (Stop s))) c.in-Err-Stop-Host.field-0-0-is in
    absurd (has_room due other)
