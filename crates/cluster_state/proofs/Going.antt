-- Servers that are killed or go: what is true of the cluster, and its station.
use Rattle.std.proofs.Common.{◌≡◌, ◌≢◌, ℕ, ◌+◌, Bool, true, false, cond, nat_le, is_some, drop, List, [], ◌∷◌, Option, Some, None, refl, sym, ◌∙◌, ap, subst}
use Rattle.std.specs.Prelude.{find}
use Rattle.std.specs.FinMap as map
use Rattle.std.specs.FinMap.{get-remove}
use Rattle.std.specs.Cmp.Lexicographic.{nat_list_cmp_total}
use Rattle.std.specs.List.{Contains}
use Rattle.std.specs.Option.{option_map_or}
use Rattle.std.proofs.lemmas.Option.{same_Some, none-some}
use Rattle.host_model.specs.State.{HostState}
use Rattle.plain_model.specs.State.{PlainState}
use Rattle.level_rows.proofs.EndLemmas.{same-true}
use Rattle.level_rows.proofs.Membership.{Contains-here, Contains-there}
use Rattle.node_store.specs.declared.changes.Node.{Node}
use Rattle.node_store.specs.Nodes.{Nodes}
use Rattle.store_layout.specs.Tables.{Catalog}
use Rattle.store_meaning.specs.Ground.{Ground, with_nodes}
use Rattle.store_meaning.specs.Levels.{Reading}
use Rattle.ground_store.specs.Value.{GroundValue}
use Rattle.server_list.specs.declared.entry.ServerEntry.{ServerEntry}
use Rattle.server_list.specs.Servers.{Servers, is_named, is_of_session, is_live, has_expired, server_named, killed, ended, ticks_to_expiry}
use Rattle.server_nodes.specs.Sessions.{log_of, log_path, server_path}
use Rattle.server_nodes.specs.Started.{HasValue}
use Rattle.server_nodes.specs.Grounds.{IsGroundWithout}
use Rattle.server_nodes.proofs.KeptGone.{OnlyServersGo, servers_go}
use Rattle.server_nodes.proofs.PutLemmas.{not_same}
use Rattle.cluster_state.specs.Value.{ClusterValue}
use Rattle.cluster_state.specs.Served.{IsCluster}
use Rattle.cluster_state.specs.Station.{IsStationOf, HasOpenLog, row_of}
use Rattle.cluster_state.specs.Ending.{EndsServer}
use Rattle.cluster_state.proofs.ServerLists.{each_killed, apart_killed, each_left, apart_left, gone_left, listed_session}
use Rattle.cluster_state.proofs.Hosts.{ended_was, ended_is}
use Rattle.cluster_state.proofs.ToldLemmas.{has_same}
use Rattle.cluster_state.proofs.OpenLogs.{sorted_path, still_open}

-- ---- the server of a name

-- what was found is one of the list, and passes
pub record IsFound {X : Type 0} (test : X → Bool) (xs : List X) (x : X) : Type 0 where
  pub there : Contains xs x
  pub passes : test x ≡ true

pub found_in : {X : Type 0} (test : X → Bool) (xs : List X) (x : X) → find test xs ≡ Some x → IsFound test xs x
found_in test [] x found = absurd (none-some x found)
found_in test (y ∷ more) x found = by (test y) refl found (found_in test more x)
  where
    by : (b : Bool) → test y ≡ b → cond b (Some y) (find test more) ≡ Some x → (find test more ≡ Some x → IsFound test more x) → IsFound test (y ∷ more) x
    by true is found rest = (let at = same_Some y x found in record { there = subst (Contains (y ∷ more)) at (Contains-here y more); passes = ap test (sym at) ∙ is })
    by false is found rest = (let behind = rest found in record { there = Contains-there y x more behind.there; passes = behind.passes })

-- a live server is there
pub record IsLiveThere (found : Option ServerEntry) : Type 0 where
  pub server : ServerEntry
  pub is : found ≡ Some server

pub live_there : (found : Option ServerEntry) → option_map_or is_live found false ≡ true → IsLiveThere found
live_there None live = absurd (let wrong : false ≡ true = live in cc)
live_there (Some server) live = record { server = server; is = refl }

-- one that has expired is there
pub record IsExpired (found : Option ServerEntry) : Type 0 where
  pub server : ServerEntry
  pub is : found ≡ Some server
  pub at : ℕ
  pub dead : server.expires ≡ Some at

pub expired_there : (clock : ℕ) (found : Option ServerEntry) → option_map_or (has_expired clock) found false ≡ true → IsExpired found
expired_there clock None expired = absurd (let wrong : false ≡ true = expired in cc)
expired_there clock (Some server) expired = by server.expires refl expired
  where
    by : (expires : Option ℕ) → server.expires ≡ expires → option_map_or (λ at. nat_le at clock) expires false ≡ true → IsExpired (Some server)
    by None is expired = absurd (let wrong : false ≡ true = expired in cc)
    by (Some at) is expired = record { server = server; is = refl; at = at; dead = is }

-- ---- what is true of each cluster

pub killed_cluster : {H : Type 0} (base : GroundValue H) (name : List ℕ) (servers : Servers) → IsCluster base servers → IsCluster base (killed name servers)
killed_cluster base name servers is = record {
  served = λ server there.
      let was = each_killed name (servers.clock + ticks_to_expiry) servers.list server there in
      let served = is.served was.was was.there in
      record {
        node = subst (λ n. HasValue base.nodes.nodes (server_path n) server.session) (sym was.name) (subst (HasValue base.nodes.nodes (server_path was.was.name)) (sym was.session) served.node);
        log = subst (λ s. is_some (map.get base.logs (log_of s)) ≡ true) (sym was.session) served.log;
      };
  apart = apart_killed name (servers.clock + ticks_to_expiry) servers.list is.apart;
}

-- the node of a server in the list
pub node_there : {H : Type 0} (base : GroundValue H) (name : List ℕ) (servers : Servers) (server : ServerEntry) → IsCluster base servers → server_named name servers ≡ Some server → is_some (map.get base.nodes.nodes (server_path name)) ≡ true
node_there base name servers server is named =
    let found = found_in (is_named name) servers.list server named in
    let node = (is.served server found.there).node in
    subst (λ n. is_some (map.get base.nodes.nodes (server_path n)) ≡ true) (sym (same-true name server.name found.passes)) (ap is_some node.there)

-- the value of one path
one_value : (nodes : Nodes) (path a b : List ℕ) → HasValue nodes path a → HasValue nodes path b → a ≡ b
one_value nodes path a b one other = sym one.is ∙ ap (λ (n : Node). n.value) (same_Some one.node other.node (sym one.there ∙ other.there)) ∙ other.is

module _ {H : Type 0} (old new : GroundValue H) (name : List ℕ) (servers : Servers) (gone : ServerEntry) (named : server_named name servers ≡ Some gone) (is : IsCluster old servers)
    (nodes : new.nodes.nodes ≡ map.remove old.nodes.nodes (server_path name)) (logs : new.logs ≡ old.logs) where
  -- who is left has another name
  other_name : (server : ServerEntry) → Contains (ended name servers).list server → server.name ≢ name
  other_name server there at =
      let found = found_in (is_named name) servers.list gone named in
      let own = is.served server (each_left name servers.list server there) in
      let session : server.session ≡ gone.session = one_value old.nodes.nodes (server_path name) server.session gone.session
      (subst (λ n. HasValue old.nodes.nodes (server_path n) server.session) at own.node)
      (subst (λ n. HasValue old.nodes.nodes (server_path n) gone.session) (sym (same-true name gone.name found.passes)) (is.served gone found.there).node) in
      listed_session (ended name servers).list server there (subst (λ s. find (is_of_session s) (ended name servers).list ≡ None) (sym session) (gone_left name gone servers.list is.apart named))

  pub ended_cluster : IsCluster new (ended name servers)
  ended_cluster = record {
    served = λ server there.
        let own = is.served server (each_left name servers.list server there) in
        record {
          node = record {
            node = own.node.node;
            there = ap (λ n. map.get n (server_path server.name)) nodes ∙ get-remove nat_list_cmp_total old.nodes.nodes (server_path name) (server_path server.name)
                ∙ ap (λ b. cond b None (map.get old.nodes.nodes (server_path server.name))) (not_same (server_path name) (server_path server.name) (λ at. other_name server there (ap (drop 9) at))) ∙ own.node.there;
            is = own.node.is;
          };
          log = ap (λ l. is_some (map.get l (log_of server.session))) logs ∙ own.log;
        };
    apart = apart_left name servers.list is.apart;
  }

-- ---- the station

module _ {H : Type 0} (state : H → HostState) (reading : Reading) (catalog : Catalog) (known : Ground) (plain : PlainState) (name : List ℕ) (old new : ClusterValue H) (ends : EndsServer name old new) (gone : ServerEntry) (at : ℕ)
    (named : server_named name old.servers ≡ Some gone) (dead : gone.expires ≡ Some at) (cluster : IsCluster old.base old.servers) (is : IsStationOf state old reading catalog known plain) (runs : new.base.stopped ≡ None)
    (ground : IsGroundWithout (server_path name ∷ []) reading catalog known plain (state new.base.host).files) where
  abbrev now : Ground
  now = with_nodes known ground.nodes

  others_go : OnlyServersGo known.nodes ground.nodes
  others_go = servers_go (server_path name ∷ []) known.nodes ground.nodes (refl, tt) ground.gone

  log_stays : (session : List ℕ) → HasOpenLog known.nodes session → HasOpenLog ground.nodes session
  log_stays session = still_open known.nodes ground.nodes session (others_go.others (log_path session) refl) (others_go.others (sorted_path (log_of session)) refl)

  pub ended_station : IsStationOf state new reading catalog now plain
  ended_station = subst (λ c. IsStationOf state c reading catalog now plain) (sym ends.rest) (record {
    runs = runs;
    of = ground.of;
    kept = ground.kept;
    logs = λ server there. log_stays server.session (is.logs server (each_left name old.servers.list server there));
    metadata = is.metadata;
    users = is.users;
    memories = record {
      live = λ rows tablet of hosted. has_same reading known now (λ path used. refl) (λ log used. refl) rows tablet (map.get old.hosted (row_of tablet)) of
          (is.memories.live rows tablet of (ended_was name old.servers tablet cluster.apart hosted));
      away = λ rows tablet of none. is.memories.away rows tablet of (λ hosted. none (ended_is name old.servers tablet gone at named dead hosted));
    };
  })
