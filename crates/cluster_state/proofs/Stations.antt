-- Stations of which the servers or the clock change.
use Rattle.std.proofs.Common.{◌≡◌, ⊎_elim, ℕ, ◌+◌, true, false, cond, List, Option, Some, None, IsTrue, refl, sym, ◌∙◌, ap, subst}
use Rattle.std.specs.FinMap as map
use Rattle.std.specs.List.{Contains}
use Rattle.host_model.specs.State.{HostState}
use Rattle.host_model.specs.declared.fault.Stop.{Stop}
use Rattle.plain_model.specs.State.{PlainState}
use Rattle.metadata_schema.specs.Bytes.{same}
use Rattle.metadata_schema.specs.declared.tablet.TabletRecord.{TabletRecord}
use Rattle.level_rows.specs.Chain.{Rows}
use Rattle.level_rows.proofs.EndLemmas.{same-refl}
use Rattle.store_layout.specs.Tables.{Catalog}
use Rattle.store_meaning.specs.Ground.{Ground, IsGroundOf}
use Rattle.store_meaning.specs.Levels.{Reading}
use Rattle.server_list.specs.declared.entry.ServerEntry.{ServerEntry}
use Rattle.server_list.specs.Servers.{ticked, killed, ticks_to_expiry}
use Rattle.hosted_memories.specs.declared.hosting.Hosting.{Hosting}
use Rattle.hosted_memories.specs.Hosted.{of_others}
use Rattle.cluster_state.specs.Value.{ClusterValue}
use Rattle.cluster_state.specs.Served.{AreApart}
use Rattle.ground_store.specs.Acts.{Acts, GoesOn, Unless}
use Rattle.ground_store.specs.Steps.{Stays}
use Rattle.cluster_state.specs.Station.{IsStationOf, IsTabletOf, IsHosted, HasMemory, HasOpenLog, StaysStation, row_of}
use Rattle.cluster_state.specs.Killing.{KillsServer}
use Rattle.cluster_state.proofs.ServerLists.{same_or_not, each_killed}
use Rattle.cluster_state.proofs.Hosts.{hosted_by, hosted_or_not, ticked_was, ticked_is, killed_was, killed_is, killed_elsewhere}

module _ {H : Type 0} (state : H → HostState) (reading : Reading) (catalog : Catalog) (known : Ground) (plain : PlainState) where
  -- the clock goes on
  pub ticked_station : (ticks : ℕ) (old : ClusterValue H) → IsStationOf state old reading catalog known plain → IsStationOf state (record old { servers = ticked ticks old.servers }) reading catalog known plain
  ticked_station ticks old is = record {
    runs = is.runs;
    of = is.of;
    kept = is.kept;
    logs = is.logs;
    metadata = is.metadata;
    users = is.users;
    memories = record {
      live = λ rows tablet of hosted. is.memories.live rows tablet of (ticked_was ticks old.servers tablet hosted);
      away = λ rows tablet of none. is.memories.away rows tablet of (λ hosted. none (ticked_is ticks old.servers tablet hosted));
    };
  }

  module _ (name : List ℕ) (old new : ClusterValue H) (kills : KillsServer name old new) (apart : AreApart old.servers.list) (is : IsStationOf state old reading catalog known plain) where
    abbrev dead : ServerEntry
    dead = kills.server

    -- the entry of another session stays
    kept_of : (row : List ℕ) (hosting : Hosting) → map.get old.hosted row ≡ Some hosting → same hosting.session dead.session ≡ false → map.get new.hosted row ≡ Some hosting
    kept_of row hosting there apart = kills.hosted row ∙ ap (of_others dead.session) there ∙ ap (λ b. cond b None (Some hosting)) apart

    gone_of : (row : List ℕ) (hosting : Hosting) → map.get old.hosted row ≡ Some hosting → same hosting.session dead.session ≡ true → map.get new.hosted row ≡ None
    gone_of row hosting there at = kills.hosted row ∙ ap (of_others dead.session) there ∙ ap (λ b. cond b None (Some hosting)) at

    live_still : (rows : Rows) (tablet : TabletRecord) → IsTabletOf reading rows tablet → IsHosted (killed name old.servers) tablet → HasMemory known rows tablet (map.get new.hosted (row_of tablet))
    live_still rows tablet of hosted =
        let was = is.memories.live rows tablet of (killed_was name old.servers tablet dead kills.named hosted) in
        let by = hosted_by (killed name old.servers) tablet hosted in
        let other : same was.hosting.session dead.session ≡ false = same_or_not was.hosting.session dead.session (same was.hosting.session dead.session ≡ false)
        (λ at. absurd (killed_elsewhere name old.servers tablet dead kills.named apart hosted by.holder by.is (ap (λ s. same s dead.session) (sym (was.session by.holder by.is)) ∙ at)))
        (λ no. no) in
        record { hosting = was.hosting; is = kept_of (row_of tablet) was.hosting was.is other; session = was.session; of = was.of; past = was.past }

    away_still : (rows : Rows) (tablet : TabletRecord) → IsTabletOf reading rows tablet → (IsHosted (killed name old.servers) tablet → ⊥) → map.get new.hosted (row_of tablet) ≡ None
    away_still rows tablet of none = ⊎_elim
        (λ yes.
        let was = is.memories.live rows tablet of yes in
        let by = hosted_by old.servers tablet yes in
        same_or_not was.hosting.session dead.session (map.get new.hosted (row_of tablet) ≡ None)
        (λ at. gone_of (row_of tablet) was.hosting was.is at)
        (λ no. absurd (none (killed_is name old.servers tablet dead kills.named by.holder by.is
        (λ at. (let wrong : true ≡ false = sym (same-refl dead.session) ∙ ap (λ s. same s dead.session) (at ∙ sym (was.session by.holder by.is)) ∙ no in cc)) yes))))
        (λ no. kills.hosted (row_of tablet) ∙ ap (of_others dead.session) (is.memories.away rows tablet of no))
        (hosted_or_not old.servers tablet)

    logs_still : (server : ServerEntry) → Contains (killed name old.servers).list server → HasOpenLog known.nodes server.session
    logs_still server there =
        let was = each_killed name (old.servers.clock + ticks_to_expiry) old.servers.list server there in
        subst (HasOpenLog known.nodes) (sym was.session) (is.logs was.was was.there)

    pub killed_station : IsStationOf state new reading catalog known plain
    killed_station = subst (λ c. IsStationOf state c reading catalog known plain) (sym kills.rest) (record {
      runs = is.runs;
      of = is.of;
      kept = is.kept;
      logs = logs_still;
      metadata = is.metadata;
      users = is.users;
      memories = record { live = live_still; away = away_still };
    })

  -- nothing changes but what the host is asked and says
  pub same_station : (old new : ClusterValue H) → new ≡ record old { base = new.base } → new.base.stopped ≡ None → (state new.base.host).files ≡ (state old.base.host).files
      → IsStationOf state old reading catalog known plain → IsStationOf state new reading catalog known plain
  same_station old new beside runs files is = subst (λ c. IsStationOf state c reading catalog known plain) (sym beside) (record {
    runs = runs;
    of = subst (λ image. IsGroundOf image known) (sym files) is.of;
    kept = is.kept;
    logs = is.logs;
    metadata = is.metadata;
    users = is.users;
    memories = is.memories;
  })

-- what holds where nothing stopped
pub unless : (stop : Option Stop) (P : Type 0) → (stop ≡ None → P) → Unless stop P
unless None P holds = holds refl
unless (Some own) P holds = tt

-- a call that only reads leaves the station
pub reads_station : {H : Type 0} (state : H → HostState) (stop : Option Stop) (old new : ClusterValue H) → Acts state Stays Stays stop old.base new.base → new ≡ record old { base = new.base } → IsTrue (state old.base.host).is_faithful
    → StaysStation state stop old new
reads_station state stop old new acts beside faithful reading catalog known plain is = unless stop (IsStationOf state new reading catalog known plain) (λ none.
    let goes = acts.goes is.runs in
    same_station state reading catalog known plain old new beside
    (subst (λ s. GoesOn s new.base.stopped (state old.base.host) (state new.base.host)) none goes.goes_on)
    (subst (λ s. Unless s (Stays (state old.base.host).files (state new.base.host).files)) none (goes.done faithful))
    is)

-- so does one that leaves the files
pub stays_station : {H : Type 0} (state : H → HostState) (stop : Option Stop) (old new : ClusterValue H) → new ≡ record old { base = new.base }
    → (old.base.stopped ≡ None → GoesOn stop new.base.stopped (state old.base.host) (state new.base.host) × ((state new.base.host).files ≡ (state old.base.host).files)) → StaysStation state stop old new
stays_station state stop old new beside went reading catalog known plain is = unless stop (IsStationOf state new reading catalog known plain) (λ none.
    let goes = went is.runs in
    same_station state reading catalog known plain old new beside (subst (λ s. GoesOn s new.base.stopped (state old.base.host) (state new.base.host)) none goes.0) goes.1 is)
