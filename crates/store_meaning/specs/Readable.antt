-- Which images can be read. A further part is a further field.
use Rattle.std.specs.Prelude.{◌≡◌, ℕ, List, [], ◌∷◌, Option, Some, Contains}
use Rattle.host_model.specs.Picture.{Image}
use Rattle.metadata_schema.specs.declared.mutation.Mutation.{Mutation}
use Rattle.metadata_schema.specs.declared.tablet.TabletRecord.{TabletRecord}
use Rattle.cell_merge.specs.declared.cell.Cell.{Cell}
use Rattle.cell_merge.specs.Changes.{AreConsistent}
use Rattle.level_rows.specs.Chain.{Rows}
use Rattle.log_files.specs.Sorted.{IsStableSortOf}
use Rattle.store_meaning.specs.Ground.{Ground, IsGroundOf}
use Rattle.store_meaning.specs.Content.{tablet_content}
use Rattle.store_meaning.specs.Levels.{Reading, IsReadingOf, root_rows, metadata_rows}
use Rattle.store_meaning.specs.InUse.{IsFileInUse, IsLogInUse, IsListedLog, IsListedSorted, IsNamedLog}

-- this look-up tells of the name
pub record IsTold {V : Type 0} (told : Option V) : Type 0 where
  pub value : V
  pub is : told ≡ Some value

-- the sorted log is there, and holds the mutations of its log in order
pub record IsSortedThere (known : Ground) (log : List ℕ) : Type 0 where
  pub mutations : List Mutation
  pub sorted : List Mutation
  pub log_is : known.mutations_of log ≡ Some mutations
  pub sorted_is : known.sorted_of log ≡ Some sorted
  pub sorts : IsStableSortOf mutations sorted

-- all that is in use is there
pub record HasAllInUse (known : Ground) (reading : Reading) : Type 0 where
  pub files : (path : List ℕ) → IsFileInUse reading path → IsTold (known.cells_of path)
  pub logs : (log : List ℕ) → IsLogInUse known.nodes reading log → IsTold (known.mutations_of log)
  pub sorted : (log : List ℕ) → IsListedSorted known.nodes log → IsSortedThere known log

-- the nodes list each log that a record names, and each that has a sorted log
pub record ListsLogs (known : Ground) (reading : Reading) : Type 0 where
  pub named : (log : List ℕ) → IsNamedLog reading log → IsListedLog known.nodes log
  pub sorted : (log : List ℕ) → IsListedSorted known.nodes log → IsListedLog known.nodes log

-- in the content of each tablet no two different cells have the same key and time
abbrev pub HaveConsistentTablets : Ground → Rows → List TabletRecord → Type 0
HaveConsistentTablets known rows chain = (tablet : TabletRecord) (cells : List Cell) → Contains chain tablet → tablet_content known rows tablet ≡ Some cells → AreConsistent cells

-- What has to hold for the ground to be read so. It says nothing yet of user tables' chains, of transactions, and of the forms of other nodes.
pub record IsReadAs (reading : Reading) (known : Ground) : Type 0 where
  pub levels : IsReadingOf known reading
  pub in_use : HasAllInUse known reading
  pub logs : ListsLogs known reading
  pub root : HaveConsistentTablets known (root_rows reading) (reading.root ∷ [])
  pub metadata : HaveConsistentTablets known (metadata_rows reading) reading.chain

pub record IsReadableGround (known : Ground) : Type 0 where
  pub reading : Reading
  pub is : IsReadAs reading known

-- a ground of the image can be read
pub record IsReadable (image : Image) : Type 0 where
  pub known : Ground
  pub of : IsGroundOf image known
  pub is : IsReadableGround known
