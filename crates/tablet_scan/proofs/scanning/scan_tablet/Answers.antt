use Rattle.std.proofs.Common.{refl}
use Rattle.std.specs.Option.{option_copied}
use Rattle.tablet_scan.proofs.BehindLemmas.{acts_behind, alive_behind}
use Rattle.tablet_scan.proofs.ScanLemmas.{newest_of_content}
use Rattle.tablet_scan.proofs.scanning.scan_tablet.Goals as goal

pub returns-in-Ok-clause-content : goal.returns-in-Ok-clause-content
returns-in-Ok-clause-content g c = λ f known content ground memory e.
    newest_of_content _ known (option_copied c.args.low) c.args.tablet.now c.args.memory.now (option_copied c.args.from) (option_copied c.args.to) c.in-Ok.pairs.items content ground memory e
    (record { stored = c.in_ok-cells.cells.items; files = c.in_ok-cells.ensures.hold f; newest = c.in-Ok.ensures })

pub returns-in-Err-clause-acts : goal.returns-in-Err-clause-acts
returns-in-Err-clause-acts g c = acts_behind g.H.Host.state (g.met.H.Host.sound c.args.ground.now.host) (λ i. refl) c.in_ok-cells.ensures.acts c.stop.ensures.acts

pub stop-requires-clause-running : goal.stop-requires-clause-running
stop-requires-clause-running g c = alive_behind g.H.Host.state c.in_ok-cells.ensures.acts
