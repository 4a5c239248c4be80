use Rattle.std.proofs.Common.{◌∙◌, refl, ap}
use Rattle.std.specs.List.{filter}
use Rattle.std.specs.Option.{option_copied}
use Rattle.tablet_mem.specs.Memory.{put_all}
use Rattle.store_meaning.specs.Writes.{counts_in}
use Rattle.tablet_scan.proofs.BehindLemmas.{acts_behind, alive_behind}
use Rattle.tablet_scan.specs.Times.{IsLoaded}
use Rattle.tablet_scan.proofs.LoadLemmas.{past_files, loaded_memory}
use Rattle.tablet_scan.proofs.loading.load_memory.Given.{Over}
use Rattle.tablet_scan.proofs.loading.load_memory.Goals as goal

loaded : (g : Over) (c : goal.In-Ok g) → IsLoaded (g.H.Host.state c.args.ground.now.host) (option_copied c.args.low) c.args.tablet.now c.args.mutations.now c.put_counted.new.memory
loaded g c = record {
  greatest = c.in_ok-greatest.greatest;
  of_files = c.in_ok-greatest.ensures.greatest;
  is = c.in-Ok.ensures ∙ ap (λ memory. put_all memory (filter (counts_in (option_copied c.args.low) c.args.tablet.now) c.args.mutations.now)) c.new-memory.ensures;
}

pub returns-in-Ok-clause-past : goal.returns-in-Ok-clause-past
returns-in-Ok-clause-past g c = past_files (g.H.Host.state c.args.ground.now.host) (option_copied c.args.low) c.args.tablet.now c.args.mutations.now c.put_counted.new.memory (loaded g c)

pub returns-in-Ok-clause-memory : goal.returns-in-Ok-clause-memory
returns-in-Ok-clause-memory g c = loaded_memory (g.H.Host.state c.args.ground.now.host) (option_copied c.args.low) c.args.tablet.now c.args.mutations.now c.put_counted.new.memory (loaded g c)

pub returns-in-Err-clause-acts : goal.returns-in-Err-clause-acts
returns-in-Err-clause-acts g c = acts_behind g.H.Host.state (g.met.H.Host.sound c.args.ground.now.host) (λ i. refl) c.in_ok-greatest.ensures.acts c.stop.ensures.acts

pub stop-requires-clause-running : goal.stop-requires-clause-running
stop-requires-clause-running g c = alive_behind g.H.Host.state c.in_ok-greatest.ensures.acts
