use Rattle.std.proofs.Common.{◌∙◌, subst}
use Rattle.level_cache.proofs.BehindLemmas.{stays_then, runs_on}
use Rattle.node_store.specs.Value.{StoreValue}
use Rattle.level_cache.specs.Marks.{AreCandidatesIn}
use Rattle.level_cache.proofs.cache.LevelCache.candidates.Goals as goal

pub returns-in-Ok-clause-candidates : goal.returns-in-Ok-clause-candidates
returns-in-Ok-clause-candidates g c = λ f reading known shows have.
    (let first = c.in_ok-load_both.ensures in
    subst (λ (store : StoreValue). AreCandidatesIn store.nodes reading c.in-Ok.paths.items) (c.nodes.ensures ∙ first.same.0)
    (c.in-Ok.ensures first.metadata first.users (g.H.Host.state c.load_both.new.ground.host).files reading known (first.keeps f reading known shows have)))

pub returns-in-Err-clause-acts : goal.returns-in-Err-clause-acts
returns-in-Err-clause-acts g c = stays_then g.H.Host.state (g.met.H.Host.sound c.args.ground.now.host) c.in_ok-load_both.ensures.acts c.stop.ensures.acts

pub stop-requires-clause-running : goal.stop-requires-clause-running
stop-requires-clause-running g c = runs_on g.H.Host.state c.in_ok-load_both.ensures.acts
