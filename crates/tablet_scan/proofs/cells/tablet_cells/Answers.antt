use Rattle.std.proofs.Common.{◌++◌, ◌∙◌, refl, ap, List, ℕ, Option}
use Rattle.std.specs.Option.{option_copied}
use Rattle.cell_merge.specs.Newest.{clipped}
use Rattle.tablet_scan.proofs.BehindLemmas.{acts_behind, alive_behind}
use Rattle.tablet_scan.proofs.ScanLemmas.{latest_of_content}
use Rattle.tablet_scan.proofs.cells.tablet_cells.Goals as goal

pub returns-in-Ok-clause-content : goal.returns-in-Ok-clause-content
returns-in-Ok-clause-content g c = λ f known content ground memory e.
    latest_of_content _ known (option_copied c.args.low) c.args.tablet.now c.args.memory.now c.in-Ok.cells.items content ground memory e
    (record { stored = c.in_ok-cells.cells.items; files = c.in_ok-cells.ensures.hold f; are = c.in-Ok.ensures ∙ ap (λ (end : Option (List ℕ)). clipped (option_copied c.args.low) end (c.in_ok-cells.cells.items ++ c.args.memory.now.cells)) c.as_ref.ensures.value })

pub returns-in-Err-clause-acts : goal.returns-in-Err-clause-acts
returns-in-Err-clause-acts g c = acts_behind g.H.Host.state (g.met.H.Host.sound c.args.ground.now.host) (λ i. refl) c.in_ok-cells.ensures.acts c.stop.ensures.acts

pub stop-requires-clause-running : goal.stop-requires-clause-running
stop-requires-clause-running g c = alive_behind g.H.Host.state c.in_ok-cells.ensures.acts
