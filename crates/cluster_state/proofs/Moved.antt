-- Stations of which the ground changes, and nothing that tablets and servers have in it.
use Rattle.std.proofs.Common.{◌≡◌, ℕ, List, None, sym, subst}
use Rattle.std.specs.FinMap as map
use Rattle.host_model.specs.State.{HostState}
use Rattle.plain_model.specs.State.{PlainState}
use Rattle.store_layout.specs.Tables.{Catalog}
use Rattle.store_meaning.specs.Ground.{Ground, IsGroundOf}
use Rattle.store_meaning.specs.Levels.{Reading}
use Rattle.store_meaning.specs.InUse.{IsFileInUse, IsNamedLog}
use Rattle.store_meaning.specs.Kept.{IsKeptAs}
use Rattle.cluster_state.specs.Value.{ClusterValue}
use Rattle.cluster_state.specs.Station.{IsStationOf, HaveOpenLogs, row_of}
use Rattle.cluster_state.proofs.ToldLemmas.{has_same}

-- what is told of files in use and of logs of records stays
pub record TellsSame (reading : Reading) (known now : Ground) : Type 0 where
  pub files : (path : List ℕ) → IsFileInUse reading path → now.cells_of path ≡ known.cells_of path
  pub logs : (log : List ℕ) → IsNamedLog reading log → now.mutations_of log ≡ known.mutations_of log

module _ {H : Type 0} (state : H → HostState) (reading : Reading) (catalog : Catalog) (known : Ground) (plain : PlainState) (old new : ClusterValue H) (beside : new ≡ record old { base = new.base })
    (is : IsStationOf state old reading catalog known plain) (runs : new.base.stopped ≡ None) where
  -- read as before, with tables and a state
  pub moved_station : (now : Ground) (tables : Catalog) (after : PlainState) → TellsSame reading known now → HaveOpenLogs now old.servers.list → IsGroundOf (state new.base.host).files now → IsKeptAs reading tables now after
      → IsStationOf state new reading tables now after
  moved_station now tables after tells logs of kept = subst (λ c. IsStationOf state c reading tables now after) (sym beside) (record {
    runs = runs;
    of = of;
    kept = kept;
    logs = logs;
    metadata = is.metadata;
    users = is.users;
    memories = record {
      live = λ rows tablet of hosted. has_same reading known now tells.files tells.logs rows tablet (map.get old.hosted (row_of tablet)) of (is.memories.live rows tablet of hosted);
      away = is.memories.away;
    };
  })
