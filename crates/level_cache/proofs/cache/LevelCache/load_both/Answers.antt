use Rattle.hosted_memories.specs.Hosted.{memories_of}
use Rattle.level_cache.proofs.BehindLemmas.{stays_then, runs_on}
use Rattle.level_cache.proofs.LoadLemmas.{second_stops}
use Rattle.level_cache.proofs.StayLemmas.{faithful_still}
use Rattle.level_cache.proofs.cache.LevelCache.load_both.Goals as goal

pub returns-clause-acts : goal.returns-clause-acts
returns-clause-acts g c = stays_then g.H.Host.state (g.met.H.Host.sound c.args.ground.now.host) c.in_ok-load_users.ensures.acts c.load_metadata.ensures.acts

pub returns-clause-keeps : goal.returns-clause-keeps
returns-clause-keeps g c = λ f reading known shows have.
    (let first = c.in_ok-load_users.ensures in
    c.load_metadata.ensures.keeps (faithful_still g.H.Host.state first.acts f) reading known (first.keeps f reading known shows have) have.0)

pub returns-clause-stops : goal.returns-clause-stops
returns-clause-stops g c = λ runs.
    (let state = g.H.Host.state in
    let first = c.in_ok-load_users.ensures in
    second_stops state c.args.ground.now.nodes.nodes c.load_users.new.ground.nodes.nodes (memories_of c.args.memories.now) c.load_metadata.new.self c.load_metadata.result (state c.load_metadata.new.ground.host) first.acts (λ i. (first.same.0 i).nodes)
    (c.load_metadata.ensures.stops (runs_on state first.acts)))
