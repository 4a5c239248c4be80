-- The station of a cluster: what its ground is read as, and the memories of its tablets.
use Rattle.std.specs.Prelude.{◌≡◌, ℕ, ◌<◌, List, Option, Some, None, IfSome, All}
use Rattle.std.specs.FinMap as map
use Rattle.std.specs.List.{Contains}
use Rattle.host_model.specs.State.{HostState}
use Rattle.row_keys.specs.MetadataRow.{metadata_row}
use Rattle.host_model.specs.declared.fault.Stop.{Stop}
use Rattle.plain_model.specs.State.{PlainState}
use Rattle.metadata_schema.specs.declared.tablet.TabletRecord.{TabletRecord}
use Rattle.metadata_schema.specs.declared.tablet.Holder.{Holder}
use Rattle.cell_merge.specs.declared.cell.Cell.{Cell}
use Rattle.level_rows.specs.Chain.{Rows, effective_prev}
use Rattle.tablet_mem.specs.Memory.{Memory, next_time}
use Rattle.tablet_scan.specs.Scans.{IsMemoryOf}
use Rattle.node_store.specs.Nodes.{Nodes}
use Rattle.store_layout.specs.Tables.{Catalog}
use Rattle.store_meaning.specs.Ground.{Ground, IsGroundOf}
use Rattle.store_meaning.specs.Content.{tablet_content}
use Rattle.store_meaning.specs.Levels.{Level, Reading, root_rows}
use Rattle.store_meaning.specs.InUse.{IsOfLevel, IsListedSorted}
use Rattle.store_meaning.specs.Kept.{IsKeptAs}
use Rattle.state_reader.specs.declared.level.LevelKind.{LevelKind}
use Rattle.state_reader.specs.declared.level.LevelKind.TheVariants.{Metadata, Users}
use Rattle.ground_store.specs.Acts.{Unless}
use Rattle.server_list.specs.declared.entry.Place.TheVariants.{Live}
use Rattle.server_list.specs.declared.entry.ServerEntry.{ServerEntry}
use Rattle.server_list.specs.Servers.{Servers}
use Rattle.server_list.specs.Places.{place_of}
use Rattle.server_nodes.specs.Sessions.{log_of, log_path}
use Rattle.server_nodes.specs.Started.{HasValue}
use Rattle.hosted_memories.specs.Hosted.{HostedTablets}
use Rattle.hosted_memories.specs.declared.hosting.Hosting.{Hosting}
use Rattle.level_index.specs.Entries.{LevelMap, level_of}
use Rattle.cluster_state.specs.Value.{ClusterValue}

-- ---- tablets and their memories

-- a record of any level, among the rows of its table
pub data IsTabletOf (reading : Reading) : Rows → TabletRecord → Type 0 where
  Root : IsTabletOf reading (root_rows reading) reading.root
  OfMetadata : (tablet : TabletRecord) → IsOfLevel reading.metadata tablet → IsTabletOf reading (reading.metadata.records tablet.table) tablet
  OfUsers : (tablet : TabletRecord) → IsOfLevel reading.users tablet → IsTabletOf reading (reading.users.records tablet.table) tablet

-- the row at which the tablet's record stands
abbrev pub row_of : TabletRecord → List ℕ
row_of tablet = metadata_row tablet.table tablet.end

-- the tablet is on a live server
abbrev pub IsHosted : Servers → TabletRecord → Type 0
IsHosted servers tablet = (name : List ℕ) × (place_of tablet.loc servers ≡ Live name)

-- the next time is past the bar and past each time in the tablet's content
pub record IsPastAll (known : Ground) (rows : Rows) (tablet : TabletRecord) (memory : Memory) : Type 0 where
  pub bar : tablet.time < next_time memory
  pub cells : (cells : List Cell) → tablet_content known rows tablet ≡ Some cells → All (λ cell. cell.time < next_time memory) cells

-- the server of the tablet's `loc` has its memory: what its logs have past its bar
pub record HasMemory (known : Ground) (rows : Rows) (tablet : TabletRecord) (there : Option Hosting) : Type 0 where
  pub hosting : Hosting
  pub is : there ≡ Some hosting
  pub session : (holder : Holder) → tablet.loc ≡ Some holder → hosting.session ≡ holder.session
  pub of : IsMemoryOf known (effective_prev rows tablet) tablet hosting.memory
  pub past : IsPastAll known rows tablet hosting.memory

-- exactly the tablets on live servers have their memories
pub record HasMemories (known : Ground) (reading : Reading) (servers : Servers) (hosted : HostedTablets) : Type 0 where
  pub live : (rows : Rows) (tablet : TabletRecord) → IsTabletOf reading rows tablet → IsHosted servers tablet → HasMemory known rows tablet (map.get hosted (row_of tablet))
  pub away : (rows : Rows) (tablet : TabletRecord) → IsTabletOf reading rows tablet → (IsHosted servers tablet → ⊥) → map.get hosted (row_of tablet) ≡ None

-- ---- the station

-- an index of this kind that tells the level
pub record TellsLevel (kind : LevelKind) (level : Level) (index : LevelMap) : Type 0 where
  pub kind_is : index.kind ≡ kind
  pub is : level_of index ≡ level

-- the nodes list the session's log, and not as a sorted one, so that it may be appended to
pub record HasOpenLog (nodes : Nodes) (session : List ℕ) : Type 0 where
  pub listed : HasValue nodes (log_path session) (log_of session)
  pub unsorted : IsListedSorted nodes (log_of session) → ⊥

-- each server has such a log
abbrev pub HaveOpenLogs : Ground → List ServerEntry → Type 0
HaveOpenLogs known servers = (server : ServerEntry) → Contains servers server → HasOpenLog known.nodes server.session

-- It hasn't stopped, its files are kept, read as this reading, and stand for the plain state; and what it has in memory is what they tell.
pub record IsStationOf {H : Type 0} (state : H → HostState) (cluster : ClusterValue H) (reading : Reading) (catalog : Catalog) (known : Ground) (plain : PlainState) : Type 0 where
  pub runs : cluster.base.stopped ≡ None
  pub of : IsGroundOf (state cluster.base.host).files known
  pub kept : IsKeptAs reading catalog known plain
  pub logs : HaveOpenLogs known cluster.servers.list
  pub metadata : IfSome cluster.metadata (TellsLevel Metadata reading.metadata)
  pub users : IfSome cluster.users (TellsLevel Users reading.users)
  pub memories : HasMemories known reading cluster.servers cluster.hosted

-- ---- what becomes of it

-- where nothing stops, it is read as before, and stands for the same plain state
abbrev pub StaysStation : {H : Type 0} → (H → HostState) → Option Stop → ClusterValue H → ClusterValue H → Type 0
StaysStation state stop old new = (reading : Reading) (catalog : Catalog) (known : Ground) (plain : PlainState) → IsStationOf state old reading catalog known plain → Unless stop (IsStationOf state new reading catalog known plain)

-- so with nodes and logs that came or went
abbrev pub MovesStation : {H : Type 0} → (H → HostState) → Option Stop → ClusterValue H → ClusterValue H → Type 0
MovesStation state stop old new =
    (reading : Reading) (catalog : Catalog) (known : Ground) (plain : PlainState) → IsStationOf state old reading catalog known plain → Unless stop ((now : Ground) × IsStationOf state new reading catalog now plain)
