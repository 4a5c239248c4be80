-- Nodes that are changed: what that keeps where the caller gives that the changed nodes are kept.
use Rattle.std.specs.Prelude.{◌≡◌, ◌≢◌, ◌⊎◌, false, nat_eq, List, codes, Result, Ok, Err, OnOk}
use Rattle.std.specs.List.{starts_with}
use Rattle.host_model.specs.Picture.{Image}
use Rattle.host_model.specs.State.{HostState}
use Rattle.plain_model.specs.State.{PlainState}
use Rattle.node_store.specs.declared.changes.NodeOp.{NodeOp}
use Rattle.node_store.specs.declared.changes.NodeStop.{NodeStop}
use Rattle.node_store.specs.Nodes.{Nodes, path_of, multi_applied}
use Rattle.store_layout.specs.Nodes.{root_path}
use Rattle.store_layout.specs.Tables.{Catalog}
use Rattle.store_meaning.specs.Ground.{Ground, with_nodes}
use Rattle.store_meaning.specs.Levels.{Reading}
use Rattle.store_meaning.specs.Kept.{IsKept, IsKeptAs}
use Rattle.ground_store.specs.Steps.{Stays}
use Rattle.server_list.specs.declared.entry.ServerEntry.{ServerEntry}
use Rattle.cluster_state.specs.Value.{ClusterValue}
use Rattle.cluster_state.specs.Station.{HaveOpenLogs, IsStationOf}

-- the change is neither of the root record nor of a server's node
pub record IsOfOthers (op : NodeOp) : Type 0 where
  pub root : path_of op ≢ root_path
  pub servers : starts_with nat_eq (path_of op) (codes "/servers/") ≡ false

-- ---- images

-- a reading in which the ground is kept with this plain state
pub record IsKeptSomehow (known : Ground) (plain : PlainState) : Type 0 where
  pub reading : Reading
  pub catalog : Catalog
  pub kept : IsKeptAs reading catalog known plain

-- where these changes apply, the ground with the changed nodes is kept with this plain state
abbrev pub AreKeptWith : List NodeOp → Ground → PlainState → Type 0
AreKeptWith ops known after = (nodes : Nodes) → multi_applied ops known.nodes ≡ Ok nodes → IsKeptSomehow (with_nodes known nodes) after

-- what was kept is so still, or is kept as it is given
abbrev pub MayKeepGiven : List NodeOp → Image → Image → Type 0
MayKeepGiven ops old new = (before after : PlainState) (is : IsKept old before) → AreKeptWith ops is.known after → IsKept new before ⊎ IsKept new after

-- it is kept as it is given, or the changes are refused and nothing changes
abbrev pub KeepsGiven : {T : Type 0} → List NodeOp → Result T NodeStop → Image → Image → Type 0
KeepsGiven ops (Ok done) old new = (before after : PlainState) (is : IsKept old before) → AreKeptWith ops is.known after → IsKept new after
KeepsGiven ops (Err stop) old new = Stays old new

-- ---- the station

-- the ground is kept so, and the logs of the servers are open
pub record IsRightWith (reading : Reading) (catalog : Catalog) (known : Ground) (plain : PlainState) (servers : List ServerEntry) : Type 0 where
  pub kept : IsKeptAs reading catalog known plain
  pub logs : HaveOpenLogs known servers

-- where these changes apply, the ground with the changed nodes is so
abbrev pub AreRightWith : List NodeOp → Reading → Catalog → Ground → PlainState → List ServerEntry → Type 0
AreRightWith ops reading catalog known plain servers = (nodes : Nodes) → multi_applied ops known.nodes ≡ Ok nodes → IsRightWith reading catalog (with_nodes known nodes) plain servers

-- the changes apply, and the station is that of the changed nodes
pub record HasStationWith {H : Type 0} (state : H → HostState) (ops : List NodeOp) (cluster : ClusterValue H) (reading : Reading) (catalog : Catalog) (known : Ground) (plain : PlainState) : Type 0 where
  pub nodes : Nodes
  pub made : multi_applied ops known.nodes ≡ Ok nodes
  pub station : IsStationOf state cluster reading catalog (with_nodes known nodes) plain

-- at Ok it is read as before, with the tables and the plain state that are given
abbrev pub StationGiven : {H T : Type 0} → (H → HostState) → List NodeOp → Result T NodeStop → ClusterValue H → ClusterValue H → Type 0
StationGiven state ops result old new =
    (reading : Reading) (catalog : Catalog) (known : Ground) (plain : PlainState) → IsStationOf state old reading catalog known plain
    → (tables : Catalog) (after : PlainState) → AreRightWith ops reading tables known after old.servers.list → OnOk result (HasStationWith state ops new reading tables known after)
