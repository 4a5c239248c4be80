use Rattle.level_cache.specs.Cached.{kept_level}
use Rattle.level_cache.specs.Shown.{level_in}
use Rattle.level_cache.proofs.BehindLemmas.{stays_then, runs_on}
use Rattle.level_cache.proofs.TellLemmas.{tells, listed_at}
use Rattle.level_cache.proofs.cache.LevelCache.records_on.Goals as goal

pub returns-in-Ok-clause-told : goal.returns-in-Ok-clause-told
returns-in-Ok-clause-told g c = λ f reading known shows have.
    (let kind = c.args.kind in
    let cache = c.load.new.self in
    let later = c.in_ok-load.ensures.keeps f reading known shows have in
    listed_at kind (level_in reading kind) (kept_level kind cache) (tells (g.H.Host.state c.load.new.ground.host).files cache reading known later kind) c.in_ok-load.ensures.there c.args.table.now c.in-Ok.records.items c.in-Ok.ensures.listed)

pub returns-in-Err-clause-acts : goal.returns-in-Err-clause-acts
returns-in-Err-clause-acts g c = stays_then g.H.Host.state (g.met.H.Host.sound c.args.ground.now.host) c.in_ok-load.ensures.acts c.stop.ensures.acts

pub stop-requires-clause-running : goal.stop-requires-clause-running
stop-requires-clause-running g c = runs_on g.H.Host.state c.in_ok-load.ensures.acts
