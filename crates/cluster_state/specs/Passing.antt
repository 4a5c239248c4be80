-- Files that are put or taken out: what that keeps where nothing names them.
use Rattle.std.specs.Prelude.{◌≡◌, ℕ, List, Option, Some, None, Contains}
use Rattle.host_model.specs.Picture.{Image}
use Rattle.host_model.specs.State.{HostState}
use Rattle.host_model.specs.declared.fault.Stop.{Stop}
use Rattle.row_keys.specs.Forms.{IsLogName}
use Rattle.plain_model.specs.State.{PlainState}
use Rattle.metadata_schema.specs.declared.mutation.Mutation.{Mutation}
use Rattle.metadata_schema.specs.Paths.{IsFilePath}
use Rattle.cell_merge.specs.declared.cell.Cell.{Cell}
use Rattle.log_files.specs.Sorted.{sorted_name, IsStableSortOf}
use Rattle.store_layout.specs.Names.{file_of}
use Rattle.store_layout.specs.Tables.{Catalog}
use Rattle.store_meaning.specs.Ground.{Ground, with_cells, with_mutations, with_sorted}
use Rattle.store_meaning.specs.Levels.{Reading}
use Rattle.store_meaning.specs.InUse.{IsLogInUse, IsListedSorted}
use Rattle.store_meaning.specs.Marked.{IsFileCounted}
use Rattle.store_meaning.specs.Kept.{IsKept}
use Rattle.ground_store.specs.Acts.{Unless}
use Rattle.server_list.specs.declared.entry.ServerEntry.{ServerEntry}
use Rattle.server_list.specs.Servers.{Servers}
use Rattle.server_nodes.specs.Sessions.{log_of}
use Rattle.cluster_state.specs.Value.{ClusterValue}
use Rattle.cluster_state.specs.Station.{IsStationOf}

-- ---- what nothing names

-- a fact of a ground that is kept, as it is read and with its tables
abbrev pub Aside : Type 1
Aside = Reading → Catalog → Ground → Type 0

-- no record, flag or node names the data file of this path; a candidate may
abbrev pub IsFileAside : List ℕ → Reading → Catalog → Ground → Type 0
IsFileAside path reading catalog known = IsFileCounted reading catalog path → ⊥

-- no node names the sorted log of this log
abbrev pub IsSortAside : List ℕ → Reading → Catalog → Ground → Type 0
IsSortAside log reading catalog known = IsListedSorted known.nodes log → ⊥

-- so it is with the data file, the log or the sorted log of this name
pub record IsNameAside (name : List ℕ) (reading : Reading) (catalog : Catalog) (known : Ground) : Type 0 where
  pub file : (path : List ℕ) → IsFilePath path → name ≡ file_of path → IsFileCounted reading catalog path → ⊥
  pub log : IsLogName name → IsLogInUse known.nodes reading name → ⊥
  pub sorted : (log : List ℕ) → IsLogName log → name ≡ sorted_name log → IsListedSorted known.nodes log → ⊥

-- it is the log of a server in the list
pub record IsServerLog (name : List ℕ) (servers : Servers) : Type 0 where
  pub server : ServerEntry
  pub there : Contains servers.list server
  pub is : name ≡ log_of server.session

-- ---- what becomes of the ground

-- it tells of a data file with these cells
abbrev pub GainsFile : List ℕ → List Cell → Ground → Ground → Type 0
GainsFile path cells known now = now ≡ with_cells known path (Some cells)

-- it tells no longer of the data file
abbrev pub LosesFile : List ℕ → Ground → Ground → Type 0
LosesFile path known now = now ≡ with_cells known path None

-- it tells of the log's sorted log, with these mutations, sorted
pub record GainsSort (log : List ℕ) (mutations : List Mutation) (known now : Ground) : Type 0 where
  pub sorted : List Mutation
  pub sorts : IsStableSortOf mutations sorted
  pub is : now ≡ with_sorted known log (Some sorted)

-- it tells no longer of the data file, the log or the sorted log of this name
pub data LosesName (name : List ℕ) (known : Ground) : Ground → Type 0 where
  OfFile : (path : List ℕ) → IsFilePath path → name ≡ file_of path → LosesName name known (with_cells known path None)
  OfLog : IsLogName name → LosesName name known (with_mutations known name None)
  OfSort : (log : List ℕ) → IsLogName log → name ≡ sorted_name log → LosesName name known (with_sorted known log None)

-- ---- what is kept

-- what was kept is so still with the same plain state, where this is aside of it
abbrev pub KeepsAside : Aside → Image → Image → Type 0
KeepsAside aside old new = (plain : PlainState) (is : IsKept old plain) → aside is.reading is.catalog is.known → IsKept new plain

-- Where nothing stops and this is aside of the ground, it is read as before, and stands for the same plain state; and so it tells.
abbrev pub TellsAside : {H : Type 0} → (H → HostState) → Aside → (Ground → Ground → Type 0) → Option Stop → ClusterValue H → ClusterValue H → Type 0
TellsAside state aside tells stop old new =
    (reading : Reading) (catalog : Catalog) (known : Ground) (plain : PlainState) → IsStationOf state old reading catalog known plain → aside reading catalog known
    → Unless stop ((now : Ground) × tells known now × IsStationOf state new reading catalog now plain)
