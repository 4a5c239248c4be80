-- Which files, logs and sorted logs count.
use Rattle.std.specs.Prelude.{◌≡◌, ◌⊎◌, ℕ, List, ◌++◌, codes, Option, Some, Contains}
use Rattle.std.specs.FinMap as map_of
use Rattle.metadata_schema.specs.declared.tablet.FileEntry.{FileEntry}
use Rattle.metadata_schema.specs.declared.tablet.TabletRecord.{TabletRecord}
use Rattle.node_store.specs.declared.changes.Node.{Node}
use Rattle.node_store.specs.Nodes.{Nodes}
use Rattle.store_meaning.specs.Ground.{Ground}
use Rattle.store_meaning.specs.Content.{logs_of}
use Rattle.store_meaning.specs.Levels.{Level, Flag, Reading}

-- one of the level's records
pub record IsOfLevel (level : Level) (tablet : TabletRecord) : Type 0 where
  pub table : List ℕ
  pub end : Option (List ℕ)
  pub there : level.records table end ≡ Some tablet

-- a record of any level, in its chain or left over
abbrev pub IsRecord : Reading → TabletRecord → Type 0
IsRecord reading tablet = (reading.root ≡ tablet) ⊎ IsOfLevel reading.metadata tablet ⊎ IsOfLevel reading.users tablet

-- a `file` column of a record names this path
pub record IsNamedFile (reading : Reading) (path : List ℕ) : Type 0 where
  pub tablet : TabletRecord
  pub of : IsRecord reading tablet
  pub file : FileEntry
  pub there : Contains tablet.files file
  pub is : file.path ≡ path

-- a flag of a load stands for this path
pub record IsFlagged (level : Level) (path : List ℕ) : Type 0 where
  pub flag : Flag
  pub is : level.flag path ≡ Some flag

-- a data file that counts: named by a record, or flagged on either level
abbrev pub IsFileInUse : Reading → List ℕ → Type 0
IsFileInUse reading path = IsNamedFile reading path ⊎ IsFlagged reading.metadata path ⊎ IsFlagged reading.users path

-- the node of a session under `/logs` names this log
pub record IsListedLog (nodes : Nodes) (log : List ℕ) : Type 0 where
  pub session : List ℕ
  pub node : Node
  pub there : map_of.get nodes (codes "/logs/" ++ session) ≡ Some node
  pub is : node.value ≡ log

-- a node under `/sorted` names this log by its path
pub record IsListedSorted (nodes : Nodes) (log : List ℕ) : Type 0 where
  pub node : Node
  pub there : map_of.get nodes (codes "/sorted/" ++ log) ≡ Some node

-- a record names this log, by `log` or by the session in its `loc`
pub record IsNamedLog (reading : Reading) (log : List ℕ) : Type 0 where
  pub tablet : TabletRecord
  pub of : IsRecord reading tablet
  pub there : Contains (logs_of tablet) log

-- a log that counts: named by a record, or by the nodes
abbrev pub IsLogInUse : Nodes → Reading → List ℕ → Type 0
IsLogInUse nodes reading log = IsNamedLog reading log ⊎ IsListedLog nodes log ⊎ IsListedSorted nodes log

-- The same nodes, and the same of each file, log and sorted log in use.
pub record AgreeInUse (reading : Reading) (old new : Ground) : Type 0 where
  pub nodes : new.nodes ≡ old.nodes
  pub cells : (path : List ℕ) → IsFileInUse reading path → new.cells_of path ≡ old.cells_of path
  pub mutations : (log : List ℕ) → IsLogInUse old.nodes reading log → new.mutations_of log ≡ old.mutations_of log
  pub sorted : (log : List ℕ) → IsListedSorted old.nodes log → new.sorted_of log ≡ old.sorted_of log
