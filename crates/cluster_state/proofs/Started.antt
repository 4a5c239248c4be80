-- Stations in which a server starts.
use Rattle.std.proofs.Common.{◌≡◌, inl, inr, ℕ, Bool, true, false, cond, ◌||◌, List, [], ◌∷◌, codes, drop, Option, Some, None, IsSome, refl, sym, ◌∙◌, ap, subst}
use Rattle.std.specs.FinMap as map
use Rattle.std.specs.FinMap.{get-insert}
use Rattle.std.specs.List.{Contains, list_any}
use Rattle.std.specs.Ordering.{eq_by_cmp, nat_cmp}
use Rattle.std.specs.Cmp.Lexicographic.{nat_list_cmp_total, slice_cmp}
use Rattle.std.proofs.lemmas.Cmp.{eq_by_cmp_equiv}
use Rattle.std.proofs.lemmas.List.Elements.{Contains-append_cases}
use Rattle.host_model.specs.State.{HostState}
use Rattle.plain_model.specs.State.{PlainState}
use Rattle.metadata_schema.specs.Bytes.{same}
use Rattle.metadata_schema.specs.declared.tablet.TabletRecord.{TabletRecord}
use Rattle.metadata_schema.specs.declared.tablet.Holder.{Holder}
use Rattle.level_rows.specs.Chain.{Rows}
use Rattle.level_rows.proofs.EndLemmas.{same-true, same-refl}
use Rattle.level_rows.proofs.Membership.{Contains-cons_cases, Contains-nil}
use Rattle.log_files.specs.Value.{LogValue}
use Rattle.store_layout.specs.Nodes.{IsNext, next_session_path}
use Rattle.store_layout.specs.Tables.{Catalog}
use Rattle.store_meaning.specs.Ground.{Ground}
use Rattle.store_meaning.specs.Levels.{Reading}
use Rattle.store_meaning.specs.InUse.{IsNamedLog, IsListedSorted}
use Rattle.kept_meaning.proofs.DrawnLemmas.{one_next}
use Rattle.server_list.specs.declared.entry.ServerEntry.{ServerEntry}
use Rattle.server_list.specs.Servers.{Servers, is_named, is_listed, started}
use Rattle.server_nodes.specs.Sessions.{session_of, log_of, log_path, server_path}
use Rattle.server_nodes.specs.Started.{HasValue, HasStarted, IsStarted}
use Rattle.server_nodes.specs.Grounds.{IsStartedGround, started_ground}
use Rattle.ground_store.specs.Value.{GroundValue}
use Rattle.cluster_state.specs.Value.{ClusterValue}
use Rattle.cluster_state.specs.Served.{AreApart, IsCluster, IsServed}
use Rattle.cluster_state.specs.Station.{IsStationOf, IsTabletOf, HasOpenLog, row_of}
use Rattle.cluster_state.specs.Starting.{StartsIn, StartsServer}
use Rattle.cluster_state.proofs.ServerLists.{same_or_not, apart_behind}
use Rattle.cluster_state.proofs.Hosts.{started_was, started_is}
use Rattle.cluster_state.proofs.ToldLemmas.{is_record, has_same}
use Rattle.cluster_state.proofs.OpenLogs.{sorted_path, log_no_counter, server_no_counter, sorted_no_counter, log_no_server, sorted_no_log, sorted_no_server, still_has, still_open}

-- ---- names

log_in_path : (a b : List ℕ) → log_path a ≡ log_path b → a ≡ b
log_in_path a b at = ap (drop 6) at

name_in_path : (a b : List ℕ) → server_path a ≡ server_path b → a ≡ b
name_in_path a b at = ap (drop 9) at

-- a listed server has another name than one that isn't listed
other_name : (name : List ℕ) (servers : List ServerEntry) (server : ServerEntry) → list_any (is_named name) servers ≡ false → Contains servers server → same name server.name ≡ false
other_name name [] server none there = absurd (Contains-nil server there)
other_name name (first ∷ more) server none there = elim (Contains-cons_cases first server more there) [
  | inl is ↦ ap (λ (s : ServerEntry). same name s.name) (sym is) ∙ here (same name first.name) (list_any (is_named name) more) none
  | inr rest ↦ other_name name more server (behind (same name first.name) (list_any (is_named name) more) none) rest
]
  where
    here : (a b : Bool) → (a || b) ≡ false → a ≡ false
    here false b none = refl
    here true b none = (let wrong : true ≡ false = none in cc)

    behind : (a b : Bool) → (a || b) ≡ false → b ≡ false
    behind false b none = none
    behind true b none = absurd (let wrong : true ≡ false = none in cc)

-- ---- what is true of each cluster

module _ {H : Type 0} (name : List ℕ) (old new : GroundValue H) (servers after : Servers) (unlisted : is_listed name servers ≡ false) (starts : StartsIn name old servers new after) (was : IsCluster old servers) where
  abbrev session : List ℕ
  session = starts.session

  abbrev nodes_now : HasStarted name starts.drawn.number old.nodes.nodes new.nodes.nodes
  nodes_now = starts.drawn.nodes

  abbrev last : ServerEntry
  last = record { name = name; session = session; expires = None }

  abbrev made : LogValue
  made = record { name = log_of session; end = 0 }

  at_log : (log : List ℕ) → map.get new.logs log ≡ cond (eq_by_cmp (slice_cmp nat_cmp) log (log_of session)) (Some made) (map.get old.logs log)
  at_log log = ap (λ l. map.get l log) starts.logs ∙ get-insert nat_list_cmp_total old.logs (log_of session) made log

  some_of : (b : Bool) (was : Option LogValue) → IsSome was → IsSome (cond b (Some made) was)
  some_of true was there = refl
  some_of false was there = there

  log_there : (log : List ℕ) → IsSome (map.get old.logs log) → IsSome (map.get new.logs log)
  log_there log there = subst IsSome (sym (at_log log)) (some_of (eq_by_cmp (slice_cmp nat_cmp) log (log_of session)) (map.get old.logs log) there)

  here_is : map.get new.logs (log_of session) ≡ Some made
  here_is = at_log (log_of session) ∙ ap (λ b. cond b (Some made) (map.get old.logs (log_of session))) ((eq_by_cmp_equiv nat_list_cmp_total).refl (log_of session))

  log_here : IsSome (map.get new.logs (log_of session))
  log_here = subst IsSome (sym here_is) refl

  other_served : (server : ServerEntry) → Contains servers.list server → IsServed new.nodes.nodes new.logs server
  other_served server there =
      let served = was.served server there in
      record {
        node = still_has old.nodes.nodes new.nodes.nodes (server_path server.name) server.session
            (nodes_now.others (server_path server.name) (server_no_counter server.name (codes "session")) (λ at. log_no_server (session_of starts.drawn.number) server.name (sym at))
            (λ at. (let wrong : true ≡ false = sym (same_self name server.name (name_in_path server.name name at)) ∙ other_name name servers.list server unlisted there in cc)))
            served.node;
        log = log_there (log_of server.session) served.log;
      }
    where
      same_self : (a b : List ℕ) → b ≡ a → same a b ≡ true
      same_self a b is = ap (same a) is ∙ same-refl a

  last_served : IsServed new.nodes.nodes new.logs last
  last_served = record {
    node = subst (HasValue new.nodes.nodes (server_path name)) (sym starts.drawn.is) nodes_now.server;
    log = log_here;
  }

  pub started_cluster : IsCluster new after
  started_cluster = record {
    served = λ server there. elim (Contains-append_cases servers.list (last ∷ []) server (subst (λ (s : Servers). Contains s.list server) starts.list there)) [
      | inl front ↦ other_served server front
      | inr behind ↦ elim (Contains-cons_cases last server [] behind) [
        | inl is ↦ subst (IsServed new.nodes.nodes new.logs) is last_served
        | inr none ↦ absurd (Contains-nil server none)
      ]
    ];
    apart = subst (λ (s : Servers). AreApart s.list) (sym starts.list) (apart_behind servers.list last was.apart starts.fresh);
  }

-- ---- the station

module _ {H : Type 0} (state : H → HostState) (reading : Reading) (catalog : Catalog) (known : Ground) (plain : PlainState) (name : List ℕ) (old new : ClusterValue H) (starts : StartsServer name old new)
    (is : IsStationOf state old reading catalog known plain) (same_nodes : known.nodes ≡ old.base.nodes.nodes) (runs : new.base.stopped ≡ None) (ground : IsStartedGround name reading catalog known plain (state new.base.host).files) where
  abbrev drawn : IsStarted name starts.starts.session old.base.nodes.nodes new.base.nodes.nodes
  drawn = starts.starts.drawn

  -- it is the session that the ground tells of
  number_is : drawn.number ≡ ground.number
  number_is = one_next known.nodes next_session_path drawn.number ground.number (subst (λ nodes. IsNext nodes next_session_path drawn.number) (sym same_nodes) drawn.drawn.next) ground.drawn.next

  session_is : starts.starts.session ≡ session_of ground.number
  session_is = drawn.is ∙ ap session_of number_is

  abbrev now : Ground
  now = started_ground known ground.number ground.nodes

  -- the new log is named by no record
  told_still : (log : List ℕ) → IsNamedLog reading log → now.mutations_of log ≡ known.mutations_of log
  told_still log named = by (same log (log_of (session_of ground.number))) refl
    where
      by : (b : Bool) → same log (log_of (session_of ground.number)) ≡ b → cond b (Some []) (known.mutations_of log) ≡ known.mutations_of log
      by true at = absurd (ground.fresh.in_use (inl (subst (IsNamedLog reading) (same-true log (log_of (session_of ground.number)) at) named)))
      by false at = refl

  -- no tablet is on the new server
  holder_apart : (rows : Rows) (tablet : TabletRecord) → IsTabletOf reading rows tablet → (holder : Holder) → tablet.loc ≡ Some holder → same holder.session starts.starts.session ≡ false
  holder_apart rows tablet of holder at = same_or_not holder.session starts.starts.session (same holder.session starts.starts.session ≡ false)
      (λ here. absurd (ground.fresh.holder (record { tablet = tablet; of = is_record reading rows tablet of; holder = holder; there = inl at; is = same-true holder.session starts.starts.session here ∙ session_is })))
      (λ no. no)

  -- the session's log isn't sorted
  never_sorted : IsListedSorted known.nodes (log_of (session_of ground.number)) → ⊥
  never_sorted sorted = ground.fresh.in_use (inr (inr sorted))

  sorted_stays : (log : List ℕ) → map.get ground.nodes (sorted_path log) ≡ map.get known.nodes (sorted_path log)
  sorted_stays log = ground.started.others (sorted_path log) (sorted_no_counter log (codes "session")) (sorted_no_log log (session_of ground.number)) (sorted_no_server log name)

  -- the log of another session stays
  others_open : (session : List ℕ) → HasOpenLog known.nodes session → HasOpenLog ground.nodes session
  others_open session was = still_open known.nodes ground.nodes session
      (ground.started.others (log_path session) (log_no_counter session (codes "session"))
      (λ at. ground.fresh.log (record { node = was.listed.node; there = subst (λ s. map.get known.nodes (log_path s) ≡ Some was.listed.node) (log_in_path session (session_of ground.number) at) was.listed.there }))
      (log_no_server session name))
      (sorted_stays (log_of session))
      was

  opened : HasOpenLog ground.nodes (session_of ground.number)
  opened = record {
    listed = ground.started.log;
    unsorted = λ sorted. never_sorted (record { node = sorted.node; there = sym (sorted_stays (log_of (session_of ground.number))) ∙ sorted.there });
  }

  logs_open : (server : ServerEntry) → Contains (started name starts.starts.session old.servers).list server → HasOpenLog now.nodes server.session
  logs_open server there = elim (Contains-append_cases old.servers.list (record { name = name; session = starts.starts.session; expires = None } ∷ []) server there) [
    | inl front ↦ others_open server.session (is.logs server front)
    | inr behind ↦ elim (Contains-cons_cases (record { name = name; session = starts.starts.session; expires = None }) server [] behind) [
      | inl at ↦ subst (λ (s : ServerEntry). HasOpenLog now.nodes s.session) at (subst (HasOpenLog now.nodes) (sym session_is) opened)
      | inr none ↦ absurd (Contains-nil server none)
    ]
  ]

  list_is : new.servers ≡ started name starts.starts.session old.servers
  list_is = starts.starts.list

  pub started_station : IsStationOf state new reading catalog now plain
  started_station = subst (λ c. IsStationOf state c reading catalog now plain) (sym (starts.rest ∙ ap (λ s. record old { base = new.base; servers = s }) list_is)) (record {
    runs = runs;
    of = ground.of;
    kept = ground.kept;
    logs = logs_open;
    metadata = is.metadata;
    users = is.users;
    memories = record {
      live = λ rows tablet of hosted. has_same reading known now (λ path used. refl) told_still rows tablet (map.get old.hosted (row_of tablet)) of
          (is.memories.live rows tablet of (started_was name starts.starts.session old.servers tablet (holder_apart rows tablet of) hosted));
      away = λ rows tablet of none. is.memories.away rows tablet of (λ hosted. none (started_is name starts.starts.session old.servers tablet (holder_apart rows tablet of) hosted));
    };
  })
