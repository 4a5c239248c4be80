use Rattle.std.proofs.Common.{subst}
use Rattle.std.proofs.lemmas.Result.{IfErr-weaker}
use Rattle.state_reader.specs.declared.level.LevelKind.TheVariants.{Metadata}
use Rattle.hosted_memories.specs.Hosted.{memories_of}
use Rattle.level_cache.specs.Causes.{MetadataStop}
use Rattle.level_cache.proofs.BehindLemmas.{stays_then, runs_on}
use Rattle.level_cache.proofs.CauseLemmas.{level_metadata}
use Rattle.level_cache.proofs.StayLemmas.{ground_stays, faithful_still}
use Rattle.level_cache.proofs.TellLemmas.{shows_metadata, told}
use Rattle.level_cache.proofs.reading.read_metadata.Goals as goal

pub returns-clause-acts : goal.returns-clause-acts
returns-clause-acts g c = stays_then g.H.Host.state (g.met.H.Host.sound c.args.ground.now.host) c.in_ok-root.ensures.acts c.metadata_level.ensures.acts

pub returns-clause-told : goal.returns-clause-told
returns-clause-told g c = λ f reading known of is have.
    (let state = g.H.Host.state in
    let first = c.in_ok-root.ensures.acts in
    let hosted = memories_of c.args.memories.now in
    let shows = shows_metadata (state c.root_tablet.new.ground.host).files hosted c.in_ok-root.root reading known (ground_stays state first f known of) is (c.in_ok-root.ensures.told f reading known of is) have in
    told Metadata reading.metadata c.metadata_level.result c.metadata_level.ensures.kind (c.metadata_level.ensures.level (faithful_still state first f) reading shows))

pub returns-clause-undamaged : goal.returns-clause-undamaged
returns-clause-undamaged g c = λ runs f reading known of is have.
    (let state = g.H.Host.state in
    let first = c.in_ok-root.ensures.acts in
    let hosted = memories_of c.args.memories.now in
    c.metadata_level.ensures.undamaged (runs_on state first) (faithful_still state first f) reading
    (shows_metadata (state c.root_tablet.new.ground.host).files hosted c.in_ok-root.root reading known (ground_stays state first f known of) is (c.in_ok-root.ensures.told f reading known of is) have))

pub returns-clause-stops : goal.returns-clause-stops
returns-clause-stops g c = λ runs.
    (let state = g.H.Host.state in
    let nodes = c.args.ground.now.nodes.nodes in
    let hosted = memories_of c.args.memories.now in
    let new = state c.metadata_level.new.ground.host in
    IfErr-weaker c.metadata_level.result _ _
    (λ stop cause. subst (λ h. MetadataStop nodes hosted stop (state h) new) c.in_ok-root.ensures.host (level_metadata nodes hosted c.in_ok-root.root c.in_ok-root.ensures.root stop (state c.root_tablet.new.ground.host) new cause))
    (c.metadata_level.ensures.stops (runs_on state c.in_ok-root.ensures.acts)))
