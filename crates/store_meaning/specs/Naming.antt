-- What a written row names: data files that are told, and logs that the nodes list.
use Rattle.std.specs.Prelude.{◌≡◌, ◌⊎◌, ℕ, List, IfSome, Contains}
use Rattle.std.specs.FinMap as map_of
use Rattle.metadata_schema.specs.declared.tablet.FileEntry.{FileEntry}
use Rattle.metadata_schema.specs.declared.tablet.TabletRecord.{TabletRecord}
use Rattle.node_store.specs.Nodes.{Nodes}
use Rattle.store_layout.specs.Nodes.{root_path}
use Rattle.store_meaning.specs.Ground.{Ground}
use Rattle.store_meaning.specs.Content.{logs_of}
use Rattle.store_meaning.specs.Levels.{Reading}
use Rattle.store_meaning.specs.InUse.{IsNamedLog, IsListedLog, IsListedSorted}
use Rattle.store_meaning.specs.Readable.{IsTold, IsSortedThere}
use Rattle.store_meaning.specs.RowWrites.{LevelRow, RecordRow, CandidateRow, FlagRow}

-- each file of the record is told, and each log of its own or of its holder has a node under `/logs`
pub record NamesKnown (known : Ground) (tablet : TabletRecord) : Type 0 where
  pub files : (file : FileEntry) → Contains tablet.files file → IsTold (known.cells_of file.path)
  pub logs : (log : List ℕ) → Contains (logs_of tablet) log → IsListedLog known.nodes log

-- so it is with a row's record, and with the file of a flag
abbrev pub RowNamesKnown : Ground → LevelRow → Type 0
RowNamesKnown known (RecordRow table end tablet) = IfSome tablet (NamesKnown known)
RowNamesKnown known (CandidateRow path is_there) = Unit {0}
RowNamesKnown known (FlagRow path flag) = IfSome flag (λ is. IsTold (known.cells_of path))

-- nothing is appended to a log that has been sorted
abbrev pub IsUnsorted : Ground → List ℕ → Type 0
IsUnsorted known log = IsListedSorted known.nodes log → ⊥

-- ---- nodes alone

-- Other nodes with the same root record: they list each log that a record names or that is sorted, each log that comes is told,
-- and each sorted log that comes is there.
pub record NodesFit (known : Ground) (reading : Reading) (nodes : Nodes) : Type 0 where
  pub root : map_of.get nodes root_path ≡ map_of.get known.nodes root_path
  pub named : (log : List ℕ) → IsNamedLog reading log → IsListedLog nodes log
  pub sorted : (log : List ℕ) → IsListedSorted nodes log → IsListedLog nodes log
  pub logs : (log : List ℕ) → IsListedLog nodes log → IsListedLog known.nodes log ⊎ IsTold (known.mutations_of log)
  pub sorted_logs : (log : List ℕ) → IsListedSorted nodes log → IsListedSorted known.nodes log ⊎ IsSortedThere known log
