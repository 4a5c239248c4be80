use Rattle.std.proofs.Common.{sym, ◌∙◌, ap}
use Rattle.std.proofs.lemmas.Result.{IfErr-weaker}
use Rattle.state_reader.specs.declared.level.LevelKind.TheVariants.{Users}
use Rattle.hosted_memories.specs.Hosted.{memories_of}
use Rattle.level_cache.specs.Cached.{CachedLevels}
use Rattle.level_cache.proofs.BehindLemmas.{stays_then, runs_on, keeps_on}
use Rattle.level_cache.proofs.CauseLemmas.{users_levels}
use Rattle.level_cache.proofs.StayLemmas.{files_stay, faithful_still, shows_still}
use Rattle.level_cache.proofs.TellLemmas.{shows_users, told}
use Rattle.level_cache.proofs.cache.LevelCache.read_users.Goals as goal

pub returns-clause-acts : goal.returns-clause-acts
returns-clause-acts g c = stays_then g.H.Host.state (g.met.H.Host.sound c.args.ground.now.host) c.in_ok-load_metadata.ensures.acts c.users_level.ensures.acts

pub returns-clause-told : goal.returns-clause-told
returns-clause-told g c = λ f reading known shows have.
    (let state = g.H.Host.state in
    let first = c.in_ok-load_metadata.ensures in
    let cache = c.load_metadata.new.self in
    let later = first.keeps f reading known shows have.0 in
    told Users reading.users c.users_level.result c.users_level.ensures.kind
    (c.users_level.ensures.level (faithful_still state first.acts f) reading (shows_users (state c.load_metadata.new.ground.host).files cache reading known later c.in-Some.metadata (sym (ap (λ (cache : CachedLevels). cache.metadata) c.self.view_is) ∙ c.in-Some.is) (memories_of c.args.memories.now) have)))

pub returns-clause-keeps : goal.returns-clause-keeps
returns-clause-keeps g c = λ f reading known shows have.
    (let state = g.H.Host.state in
    let first = c.in_ok-load_metadata.ensures in
    shows_still state c.users_level.ensures.acts (faithful_still state first.acts f) c.load_metadata.new.self reading known (first.keeps f reading known shows have.0))

pub returns-clause-undamaged : goal.returns-clause-undamaged
returns-clause-undamaged g c = λ runs f reading known shows have.
    (let state = g.H.Host.state in
    let first = c.in_ok-load_metadata.ensures in
    let cache = c.load_metadata.new.self in
    let later = first.keeps f reading known shows have.0 in
    c.users_level.ensures.undamaged (runs_on state first.acts) (faithful_still state first.acts f) reading (shows_users (state c.load_metadata.new.ground.host).files cache reading known later c.in-Some.metadata (sym (ap (λ (cache : CachedLevels). cache.metadata) c.self.view_is) ∙ c.in-Some.is) (memories_of c.args.memories.now) have))

pub returns-clause-stops : goal.returns-clause-stops
returns-clause-stops g c = λ runs.
    (let state = g.H.Host.state in
    let acts = c.in_ok-load_metadata.ensures.acts in
    IfErr-weaker c.users_level.result _ _
    (λ stop cause. users_levels c.args.ground.now.nodes.nodes (memories_of c.args.memories.now) c.load_metadata.new.self c.in-Some.metadata (sym (ap (λ (cache : CachedLevels). cache.metadata) c.self.view_is) ∙ c.in-Some.is) stop (state c.args.ground.now.host) (state c.load_metadata.new.ground.host) (state c.users_level.new.ground.host)
    (keeps_on state acts runs) (λ f. files_stay state acts f) cause)
    (c.users_level.ensures.stops (runs_on state acts)))
