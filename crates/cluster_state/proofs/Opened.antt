-- The station with which a cluster begins.
use Rattle.std.proofs.Common.{◌≡◌, ℕ, List, [], None, sym, ◌∙◌, ap, subst}
use Rattle.std.specs.Prelude.{IfSome}
use Rattle.std.specs.FinMap as map
use Rattle.std.specs.FinMap.{get-empty}
use Rattle.std.specs.List.{Contains}
use Rattle.host_model.specs.State.{HostState}
use Rattle.plain_model.specs.State.{PlainState}
use Rattle.level_rows.proofs.Membership.{Contains-nil}
use Rattle.node_store.specs.PathsTo.{path_cmp}
use Rattle.store_layout.specs.Tables.{Catalog}
use Rattle.store_meaning.specs.Ground.{Ground, with_nodes}
use Rattle.store_meaning.specs.Levels.{Reading}
use Rattle.state_reader.specs.declared.level.LevelKind.TheVariants.{Metadata, Users}
use Rattle.ground_store.specs.Value.{GroundValue}
use Rattle.server_list.specs.Servers.{Servers, at_opening}
use Rattle.server_nodes.specs.Grounds.{IsGroundWithout}
use Rattle.hosted_memories.specs.Hosted.{HostedTablets}
use Rattle.cluster_state.specs.Value.{ClusterValue}
use Rattle.cluster_state.specs.Served.{AreApart, IsCluster}
use Rattle.cluster_state.specs.Station.{IsStationOf, IsHosted, TellsLevel, row_of}
use Rattle.cluster_state.proofs.Hosts.{none_at_opening}

none_apart : AreApart []
unfolding AreApart
none_apart = tt

-- no server is in the list
pub opened_cluster : {H : Type 0} (base : GroundValue H) (servers : Servers) → servers ≡ at_opening → IsCluster base servers
opened_cluster base servers is = record {
  served = λ server there. absurd (Contains-nil server (subst (λ (s : Servers). Contains s.list server) is there));
  apart = subst (λ (s : Servers). AreApart s.list) (sym is) none_apart;
}

module _ {H : Type 0} (state : H → HostState) (reading : Reading) (catalog : Catalog) (known : Ground) (plain : PlainState) (paths : List (List ℕ)) (cluster : ClusterValue H) (servers : cluster.servers ≡ at_opening) (hosted : cluster.hosted ≡ map.empty)
    (metadata : cluster.metadata ≡ None) (users : cluster.users ≡ None) (runs : cluster.base.stopped ≡ None) (ground : IsGroundWithout paths reading catalog known plain (state cluster.base.host).files) where
  pub opened_station : IsStationOf state cluster reading catalog (with_nodes known ground.nodes) plain
  opened_station = record {
    runs = runs;
    of = ground.of;
    kept = ground.kept;
    logs = λ server there. absurd (Contains-nil server (subst (λ (s : Servers). Contains s.list server) servers there));
    metadata = subst (λ m. IfSome m (TellsLevel Metadata reading.metadata)) (sym metadata) tt;
    users = subst (λ m. IfSome m (TellsLevel Users reading.users)) (sym users) tt;
    memories = record {
      live = λ rows tablet of hosts. absurd (none_at_opening tablet (subst (λ s. IsHosted s tablet) servers hosts));
      away = λ rows tablet of none. ap (λ (h : HostedTablets). map.get h (row_of tablet)) hosted ∙ get-empty path_cmp (row_of tablet);
    };
  }
