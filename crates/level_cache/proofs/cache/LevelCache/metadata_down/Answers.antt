use Rattle.std.proofs.Common.{sym, subst}
use Rattle.std.proofs.lemmas.Result.{IfOk-weaker, IfErr-weaker}
use Rattle.hosted_memories.specs.Hosted.{memories_of}
use Rattle.store_meaning.specs.Levels.{metadata_rows}
use Rattle.level_cache.specs.Tables.{AreRecordsAt}
use Rattle.level_cache.proofs.BehindLemmas.{stays_then, runs_on}
use Rattle.level_cache.proofs.CauseLemmas.{none_levels, none_undamaged}
use Rattle.level_cache.proofs.LoadLemmas.{shows_same}
use Rattle.level_cache.proofs.cache.LevelCache.metadata_down.Goals as goal

pub returns-clause-acts : goal.returns-clause-acts
returns-clause-acts g c = stays_then g.H.Host.state (g.met.H.Host.sound c.args.ground.now.host) c.in_ok-records.ensures.acts c.down_in.ensures.acts

pub returns-clause-told : goal.returns-clause-told
returns-clause-told g c = λ f reading known shows have.
    IfOk-weaker c.down_in.result _ _
    (λ found down. (c.deref.result.now, subst (AreRecordsAt (metadata_rows reading)) (sym c.deref.ensures.value) (c.in_ok-records.ensures.told f reading known shows have), down))
    c.down_in.ensures.found

pub returns-clause-keeps : goal.returns-clause-keeps
returns-clause-keeps g c = λ f reading known shows have.
    shows_same g.H.Host.state c.metadata_records.new.self reading known c.down_in.ensures.host (c.in_ok-records.ensures.keeps f reading known shows have)

pub returns-clause-undamaged : goal.returns-clause-undamaged
returns-clause-undamaged g c = λ runs f reading known shows have.
    IfErr-weaker c.down_in.result _ _ (λ stop none. none_undamaged stop none) (c.down_in.ensures.stops (runs_on g.H.Host.state c.in_ok-records.ensures.acts))

pub returns-clause-stops : goal.returns-clause-stops
returns-clause-stops g c = λ runs.
    (let state = g.H.Host.state in
    IfErr-weaker c.down_in.result _ _
    (λ stop none. none_levels c.args.ground.now.nodes.nodes (memories_of c.args.memories.now) c.metadata_records.new.self stop (state c.args.ground.now.host) (state c.down_in.new.ground.host) none)
    (c.down_in.ensures.stops (runs_on state c.in_ok-records.ensures.acts)))
