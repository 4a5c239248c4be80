use Rattle.std.proofs.Common.{refl}
use Rattle.std.proofs.lemmas.Result.{IfOk-weaker, IfErr-weaker}
use Rattle.level_rows.specs.Chain.{rows_of}
use Rattle.level_index.specs.Entries.{level_of}
use Rattle.hosted_memories.specs.Hosted.{memories_of}
use Rattle.level_scan.specs.Tablets.{AreHosted}
use Rattle.level_scan.specs.Levels.{IsUsersRead, own_rows}
use Rattle.level_scan.proofs.CauseLemmas.{no_chain}
use Rattle.level_scan.proofs.LevelLemmas.{never_ok, users_not_amiss, chain_not_lacking, not_broken, users_are, users_undamaged, own_read, own_stop}
use Rattle.level_scan.proofs.levels.users_level.Goals as goal

pub returns-in-Ok-clause-level : goal.returns-in-Ok-clause-level
returns-in-Ok-clause-level g c = λ f reading shows.
    (let metadata = level_of c.args.metadata.now in
    let tablets = c.in-Ok.tablets in
    let files = (g.H.Host.state c.args.ground.now.host).files in
    let hosted = memories_of c.args.memories.now in
    IfOk-weaker c.chain_level.result _ _ (users_are files hosted metadata reading shows)
    (own_read metadata (rows_of tablets.table tablets.records) tablets.chain c.in-Ok.ensures.rows c.in-Ok.ensures.chain hosted c.chain_level.result files (c.chain_level.ensures.reads f)))

pub returns-in-Ok-clause-undamaged : goal.returns-in-Ok-clause-undamaged
returns-in-Ok-clause-undamaged g c = λ runs f reading shows.
    (let metadata = level_of c.args.metadata.now in
    let tablets = c.in-Ok.tablets in
    let hosted = memories_of c.args.memories.now in
    IfErr-weaker c.chain_level.result _ _
    (λ stop cause. users_undamaged (g.H.Host.state c.args.ground.now.host).files hosted metadata reading shows stop (g.H.Host.state c.args.ground.now.host) (g.H.Host.state c.chain_level.new.ground.host) f refl cause)
    (own_stop metadata (rows_of tablets.table tablets.records) tablets.chain c.in-Ok.ensures.rows c.in-Ok.ensures.chain hosted c.chain_level.result
    (g.H.Host.state c.args.ground.now.host) (g.H.Host.state c.chain_level.new.ground.host) (c.chain_level.ensures.stops runs)))

pub returns-in-Ok-clause-amiss : goal.returns-in-Ok-clause-amiss
returns-in-Ok-clause-amiss g c = λ f amiss.
    (let metadata = level_of c.args.metadata.now in
    let tablets = c.in-Ok.tablets in
    let files = (g.H.Host.state c.args.ground.now.host).files in
    let hosted = memories_of c.args.memories.now in
    never_ok c.chain_level.result (IsUsersRead files hosted metadata)
    (own_read metadata (rows_of tablets.table tablets.records) tablets.chain c.in-Ok.ensures.rows c.in-Ok.ensures.chain hosted c.chain_level.result files (c.chain_level.ensures.reads f))
    (λ index read. users_not_amiss files hosted metadata index read amiss))

pub returns-in-Ok-clause-lacks : goal.returns-in-Ok-clause-lacks
returns-in-Ok-clause-lacks g c = λ chain is lacks.
    (let hosted = memories_of c.args.memories.now in
    never_ok c.chain_level.result (λ index. AreHosted hosted c.in-Ok.tablets.chain) c.chain_level.ensures.hosted
    (λ index are. chain_not_lacking hosted (own_rows (level_of c.args.metadata.now)) c.in-Ok.tablets.chain chain c.in-Ok.ensures.chain are is lacks))

pub returns-in-Ok-clause-broken : goal.returns-in-Ok-clause-broken
returns-in-Ok-clause-broken g c = λ broken. absurd (not_broken (own_rows (level_of c.args.metadata.now)) c.in-Ok.tablets.chain c.in-Ok.ensures.chain broken)

pub returns-in-Err-clause-undamaged : goal.returns-in-Err-clause-undamaged
returns-in-Err-clause-undamaged g c = λ runs f reading shows.
    (let state = g.H.Host.state c.args.ground.now.host in
    let hosted = memories_of c.args.memories.now in
    users_undamaged state.files hosted (level_of c.args.metadata.now) reading shows c.stop_ground.result state state f refl
    (no_chain (own_rows (level_of c.args.metadata.now)) hosted c.in-Err.fault c.stop_ground.result state state c.in-Err.ensures.cause c.stop_ground.ensures.is))
