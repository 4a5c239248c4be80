use Rattle.level_cache.proofs.BehindLemmas.{stays_then, runs_on}
use Rattle.level_cache.proofs.records.root_records.Goals as goal

pub stop-requires-clause-running : goal.stop-requires-clause-running
stop-requires-clause-running g c = runs_on g.H.Host.state c.in_ok-root.ensures.acts

pub returns-in-Err-clause-acts : goal.returns-in-Err-clause-acts
returns-in-Err-clause-acts g c = stays_then g.H.Host.state (g.met.H.Host.sound c.args.ground.now.host) c.in_ok-root.ensures.acts c.stop.ensures.acts
