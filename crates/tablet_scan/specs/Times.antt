-- The times of a tablet's files, and the memory of a tablet that is loaded.
use Rattle.std.specs.Prelude.{◌≡◌, ◌↔◌, ℕ, Bool, true, List, [], ◌∷◌, ◌++◌, map, filter, is_none, Option, Some, None, IsTrue, Contains}
use Rattle.host_model.specs.Picture.{Image}
use Rattle.host_model.specs.State.{HostState}
use Rattle.metadata_schema.specs.declared.mutation.Mutation.{Mutation}
use Rattle.metadata_schema.specs.declared.tablet.FileEntry.{FileEntry}
use Rattle.metadata_schema.specs.declared.tablet.TabletRecord.{TabletRecord}
use Rattle.cell_merge.specs.declared.cell.Cell.{Cell}
use Rattle.cell_merge.specs.Newest.{Bytes}
use Rattle.data_files.specs.Files.{HoldsCells}
use Rattle.store_layout.specs.Names.{file_of}
use Rattle.tablet_mem.specs.Memory.{Memory, started, put_all}
use Rattle.tablet_mem.specs.Times.{IsGreatestOf}
use Rattle.store_meaning.specs.Ground.{Ground}
use Rattle.store_meaning.specs.Content.{logs_of}
use Rattle.store_meaning.specs.Writes.{counts_in}

-- of a file the time of its column counts, and where that has none those of the cells that the file holds
abbrev pub HasTimes : Image → List ℕ → Option ℕ → List ℕ → Type 0
HasTimes image name None times = (cells : List Cell) × HoldsCells name cells image × (times ≡ map (λ cell. cell.time) cells)
HasTimes image name (Some time) times = times ≡ time ∷ []

-- the times that count of these files, one file behind the other
abbrev pub HaveTimes : Image → List FileEntry → List ℕ → Type 0
HaveTimes image [] times = times ≡ []
HaveTimes image (file ∷ more) times = (front : List ℕ) × (back : List ℕ) × HasTimes image (file_of file.path) file.time front × HaveTimes image more back × (times ≡ front ++ back)

-- the greatest of the times that count of these files, or 0 where there is none
pub record IsGreatestIn (image : Image) (files : List FileEntry) (greatest : ℕ) : Type 0 where
  pub times : List ℕ
  pub are : HaveTimes image files times
  pub is : IsGreatestOf (0 ∷ times) greatest

-- the column has no time
abbrev pub has_no_time : FileEntry → Bool
has_no_time file = is_none file.time

-- the files that are read for their times: those whose columns have none
abbrev pub untimed : List FileEntry → List FileEntry
untimed files = filter has_no_time files

-- The memory of a tablet to which these mutations come: those that count in it are put, behind its bar and the greatest time of its files.
pub record IsLoaded (state : HostState) (low : Option Bytes) (tablet : TabletRecord) (mutations : List Mutation) (memory : Memory) : Type 0 where
  pub greatest : ℕ
  pub of_files : IsTrue state.is_faithful → IsGreatestIn state.files tablet.files greatest
  pub is : memory ≡ put_all (started tablet.time greatest) (filter (counts_in low tablet) mutations)

-- the mutation stands in a log of the tablet
pub record StandsInLog (known : Ground) (tablet : TabletRecord) (mutation : Mutation) : Type 0 where
  pub log : List ℕ
  pub of : Contains (logs_of tablet) log
  pub mutations : List Mutation
  pub told : known.mutations_of log ≡ Some mutations
  pub there : Contains mutations mutation

-- of the mutations that count in the tablet these are the ones in its logs, in any order
pub record AreInLogs (known : Ground) (low : Option Bytes) (tablet : TabletRecord) (mutations : List Mutation) : Type 0 where
  pub each : (mutation : Mutation) → counts_in low tablet mutation ≡ true → Contains mutations mutation ↔ StandsInLog known tablet mutation
