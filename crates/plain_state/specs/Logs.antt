-- The logs that nodes and records name, as lists.
use Rattle.std.specs.Prelude.{◌↔◌, ℕ, List, Contains}
use Rattle.metadata_schema.specs.declared.tablet.TabletRecord.{TabletRecord}
use Rattle.node_store.specs.Nodes.{Nodes}
use Rattle.store_meaning.specs.Ground.{Ground}
use Rattle.store_meaning.specs.Content.{logs_of}
use Rattle.store_meaning.specs.InUse.{IsListedLog, IsListedSorted}
use Rattle.store_meaning.specs.Readable.{IsTold, IsSortedThere}

-- these are the logs that the nodes list
pub record AreListed (nodes : Nodes) (logs : List (List ℕ)) : Type 0 where
  pub each : (log : List ℕ) → Contains logs log ↔ IsListedLog nodes log

-- these are the logs that the nodes list as sorted
pub record AreListedSorted (nodes : Nodes) (logs : List (List ℕ)) : Type 0 where
  pub each : (log : List ℕ) → Contains logs log ↔ IsListedSorted nodes log

-- each of these logs is one of those that are listed
pub record AreAmong (listed logs : List (List ℕ)) : Type 0 where
  pub each : (log : List ℕ) → Contains logs log → Contains listed log

-- it is one of these logs, and none of those that are listed
pub record IsMissing (listed logs : List (List ℕ)) (log : List ℕ) : Type 0 where
  pub there : Contains logs log
  pub none : Contains listed log → ⊥

-- the logs of each of these records are listed
pub record HaveLogsAmong (listed : List (List ℕ)) (records : List TabletRecord) : Type 0 where
  pub each : (tablet : TabletRecord) → Contains records tablet → AreAmong listed (logs_of tablet)

-- the mutations of each of these logs are told
pub record AreTold (known : Ground) (logs : List (List ℕ)) : Type 0 where
  pub each : (log : List ℕ) → Contains logs log → IsTold (known.mutations_of log)

-- each of these logs is listed, and its sorted log is there
pub record AreSortedThere (known : Ground) (listed logs : List (List ℕ)) : Type 0 where
  pub among : AreAmong listed logs
  pub each : (log : List ℕ) → Contains logs log → IsSortedThere known log
