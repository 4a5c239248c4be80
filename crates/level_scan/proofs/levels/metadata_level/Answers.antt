use Rattle.std.proofs.Common.{[], ◌∷◌, List, refl, subst}
use Rattle.std.specs.Result.{OnOk}
use Rattle.std.proofs.lemmas.Result.{IfOk-weaker, IfErr-weaker}
use Rattle.metadata_schema.specs.declared.tablet.TabletRecord.{TabletRecord}
use Rattle.state_reader.specs.declared.level.LevelKind.TheVariants.{Metadata}
use Rattle.state_reader.specs.Reads.{alone}
use Rattle.hosted_memories.specs.Hosted.{memories_of}
use Rattle.level_scan.specs.Tablets.{AreHosted}
use Rattle.level_scan.specs.Reads.{IsReadOf}
use Rattle.level_scan.proofs.LevelLemmas.{never_ok, not_amiss, not_lacking, metadata_is, metadata_undamaged, alone_read, alone_stop}
use Rattle.level_scan.proofs.levels.metadata_level.Goals as goal

pub returns-in-Ok-clause-level : goal.returns-in-Ok-clause-level
returns-in-Ok-clause-level g c = λ f reading shows.
    (let root = c.args.root.now in
    let tablets = c.in-Ok.tablets in
    let files = (g.H.Host.state c.args.ground.now.host).files in
    let hosted = memories_of c.args.memories.now in
    IfOk-weaker c.chain_level.result _ _ (metadata_is files hosted root reading shows)
    (alone_read root tablets.table tablets.records tablets.chain c.in-Ok.ensures.table c.in-Ok.ensures.records c.in-Ok.ensures.chain c.requires.table_is hosted c.chain_level.result files (c.chain_level.ensures.reads f)))

pub returns-in-Ok-clause-undamaged : goal.returns-in-Ok-clause-undamaged
returns-in-Ok-clause-undamaged g c = λ runs f reading shows.
    (let root = c.args.root.now in
    let tablets = c.in-Ok.tablets in
    let hosted = memories_of c.args.memories.now in
    IfErr-weaker c.chain_level.result _ _
    (λ stop cause. metadata_undamaged (g.H.Host.state c.args.ground.now.host).files hosted root reading shows stop (g.H.Host.state c.args.ground.now.host) (g.H.Host.state c.chain_level.new.ground.host) f refl cause)
    (alone_stop root tablets.table tablets.records tablets.chain c.in-Ok.ensures.table c.in-Ok.ensures.records c.in-Ok.ensures.chain c.requires.table_is hosted c.chain_level.result
    (g.H.Host.state c.args.ground.now.host) (g.H.Host.state c.chain_level.new.ground.host) (c.chain_level.ensures.stops runs)))

pub returns-in-Ok-clause-amiss : goal.returns-in-Ok-clause-amiss
returns-in-Ok-clause-amiss g c = λ f amiss.
    (let root = c.args.root.now in
    let tablets = c.in-Ok.tablets in
    let files = (g.H.Host.state c.args.ground.now.host).files in
    let hosted = memories_of c.args.memories.now in
    never_ok c.chain_level.result (IsReadOf files (alone root) hosted (root ∷ []) Metadata)
    (alone_read root tablets.table tablets.records tablets.chain c.in-Ok.ensures.table c.in-Ok.ensures.records c.in-Ok.ensures.chain c.requires.table_is hosted c.chain_level.result files (c.chain_level.ensures.reads f))
    (λ index read. not_amiss files (alone root) hosted (root ∷ []) Metadata index read amiss))

pub returns-in-Ok-clause-lacks : goal.returns-in-Ok-clause-lacks
returns-in-Ok-clause-lacks g c = λ lacks.
    (let root = c.args.root.now in
    let hosted = memories_of c.args.memories.now in
    never_ok c.chain_level.result (λ index. AreHosted hosted (root ∷ []))
    (subst (λ (l : List TabletRecord). OnOk c.chain_level.result (AreHosted hosted l)) c.in-Ok.ensures.chain c.chain_level.ensures.hosted)
    (λ index are. not_lacking hosted (root ∷ []) are lacks))
