use Rattle.std.proofs.Common.{◌≡◌, List, [], ◌∷◌, All, sym, ◌∙◌, subst}
use Rattle.std.proofs.lemmas.Result.{err_from_is_err_and, IfOk-weaker}
use Rattle.metadata_schema.specs.declared.tablet.TabletRecord.{TabletRecord}
use Rattle.store_meaning.specs.Levels.{IsRecordAt, root_id}
use Rattle.level_cache.specs.Down.{IsLive, IsFirstAway}
use Rattle.level_cache.proofs.BehindLemmas.{stays_then, runs_on}
use Rattle.level_cache.proofs.DownLemmas.{down_first, down_behind, live_root}
use Rattle.level_cache.proofs.ListedRows.{records_of_cells}
use Rattle.level_cache.proofs.LoadLemmas.{shows_same}
use Rattle.level_cache.proofs.StayLemmas.{faithful_still}
use Rattle.level_cache.proofs.TellLemmas.{own_forms}
use Rattle.level_cache.proofs.cache.LevelCache.levels_down.Goals as goal

pub down_in-requires : goal.down_in-requires
down_in-requires g c = subst (All (λ (tablet : TabletRecord). IsRecordAt tablet.table tablet.end tablet)) (sym c.deref.ensures.value) (own_forms root_id c.in_ok-roots.roots.items c.in_ok-roots.ensures.forms)

pub returns-in_err-down-clause-acts : goal.returns-in_err-down-clause-acts
returns-in_err-down-clause-acts g c =
    let p = err_from_is_err_and c.from_residual-in_err-down.result c.from_residual-in_err-down.ensures.1 in
    rw (p.1, p.2) (stays_then g.H.Host.state (g.met.H.Host.sound c.args.ground.now.host) c.in_ok-roots.ensures.acts c.in_err-down.ensures.acts)

pub returns-in-Some-clause-acts : goal.returns-in-Some-clause-acts
returns-in-Some-clause-acts g c = stays_then g.H.Host.state (g.met.H.Host.sound c.args.ground.now.host) c.in_ok-roots.ensures.acts c.in_ok-down.ensures.acts

pub returns-in-Some-clause-down : goal.returns-in-Some-clause-down
returns-in-Some-clause-down g c = λ f reading known shows have.
    (let servers = c.args.servers.now in
    let listed = records_of_cells reading.root_cells reading.metadata shows.is.metadata in
    let roots : c.deref.result.now ≡ reading.root ∷ [] = c.deref.ensures.value ∙ c.in_ok-roots.ensures.told f reading known shows.of shows.is in
    let first : IsFirstAway servers c.deref.result.now c.in-Some.down = rw c.in-Some.is at c.in_ok-down.ensures.found in
    record { records = listed.0; are = listed.1; is = down_first servers reading.root listed.0 c.in-Some.down (subst (λ (l : List TabletRecord). IsFirstAway servers l c.in-Some.down) roots first) })

pub returns-clause-acts : goal.returns-clause-acts
returns-clause-acts g c =
    let state = g.H.Host.state in
    let sound = g.met.H.Host.sound c.args.ground.now.host in
    stays_then state sound (stays_then state sound c.in_ok-roots.ensures.acts c.in_ok-down.ensures.acts) c.metadata_down.ensures.acts

pub returns-clause-down : goal.returns-clause-down
returns-clause-down g c = λ f reading known shows have.
    (let state = g.H.Host.state in
    let servers = c.args.servers.now in
    let both = stays_then state (g.met.H.Host.sound c.args.ground.now.host) c.in_ok-roots.ensures.acts c.in_ok-down.ensures.acts in
    let all : All (IsLive servers) c.deref.result.now = rw c.in-None.is at c.in_ok-down.ensures.found in
    let live = live_root servers reading.root c.deref.result.now (c.deref.ensures.value ∙ c.in_ok-roots.ensures.told f reading known shows.of shows.is) all in
    IfOk-weaker c.metadata_down.result _ _ (λ found told. record { records = told.0; are = told.1; is = down_behind servers reading.root told.0 live found told.2 })
    (c.metadata_down.ensures.told (faithful_still state both f) reading known (shows_same state c.args.self.now reading known (c.in_ok-down.ensures.host ∙ c.in_ok-roots.ensures.host) shows) (have live)))

pub returns-clause-keeps : goal.returns-clause-keeps
returns-clause-keeps g c = λ f reading known shows have.
    (let state = g.H.Host.state in
    let servers = c.args.servers.now in
    let both = stays_then state (g.met.H.Host.sound c.args.ground.now.host) c.in_ok-roots.ensures.acts c.in_ok-down.ensures.acts in
    let all : All (IsLive servers) c.deref.result.now = rw c.in-None.is at c.in_ok-down.ensures.found in
    let live = live_root servers reading.root c.deref.result.now (c.deref.ensures.value ∙ c.in_ok-roots.ensures.told f reading known shows.of shows.is) all in
    c.metadata_down.ensures.keeps (faithful_still state both f) reading known (shows_same state c.args.self.now reading known (c.in_ok-down.ensures.host ∙ c.in_ok-roots.ensures.host) shows) (have live))

pub returns-clause-undamaged : goal.returns-clause-undamaged
returns-clause-undamaged g c = λ runs f reading known shows have.
    (let state = g.H.Host.state in
    let servers = c.args.servers.now in
    let both = stays_then state (g.met.H.Host.sound c.args.ground.now.host) c.in_ok-roots.ensures.acts c.in_ok-down.ensures.acts in
    let all : All (IsLive servers) c.deref.result.now = rw c.in-None.is at c.in_ok-down.ensures.found in
    let live = live_root servers reading.root c.deref.result.now (c.deref.ensures.value ∙ c.in_ok-roots.ensures.told f reading known shows.of shows.is) all in
    c.metadata_down.ensures.undamaged (runs_on state both) (faithful_still state both f) reading known (shows_same state c.args.self.now reading known (c.in_ok-down.ensures.host ∙ c.in_ok-roots.ensures.host) shows) (have live))
