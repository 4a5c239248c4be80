-- The records of a reading as lists, and what they name.
use Rattle.std.specs.Prelude.{◌≡◌, ◌↔◌, ℕ, List, None, Contains}
use Rattle.metadata_schema.specs.declared.tablet.TabletRecord.{TabletRecord}
use Rattle.store_meaning.specs.Ground.{Ground}
use Rattle.store_meaning.specs.Levels.{Level, Reading}
use Rattle.store_meaning.specs.InUse.{IsOfLevel, IsRecord}
use Rattle.store_meaning.specs.Readable.{IsTold}
use Rattle.state_reader.specs.declared.level.LoadFlag.{LoadFlag}
use Rattle.state_reader.specs.Lacks.{IsAllTold}

-- these are the level's records
pub record AreOfLevel (level : Level) (records : List TabletRecord) : Type 0 where
  pub each : (tablet : TabletRecord) → Contains records tablet ↔ IsOfLevel level tablet

-- these are all records of the reading
pub record AreRecords (reading : Reading) (records : List TabletRecord) : Type 0 where
  pub each : (tablet : TabletRecord) → Contains records tablet ↔ IsRecord reading tablet

-- all files and logs that these records name are told
pub record AreAllTold (known : Ground) (records : List TabletRecord) : Type 0 where
  pub each : (tablet : TabletRecord) → Contains records tablet → IsAllTold known tablet

-- the files for which these flags stand are told
pub record AreFlagsTold (known : Ground) (flags : List LoadFlag) : Type 0 where
  pub each : (flag : LoadFlag) → Contains flags flag → IsTold (known.cells_of flag.path)

-- one of these flags stands for this file, of which nothing is told
pub record LacksFlag (known : Ground) (flags : List LoadFlag) (path : List ℕ) : Type 0 where
  pub flag : LoadFlag
  pub there : Contains flags flag
  pub path_is : flag.path ≡ path
  pub untold : known.cells_of path ≡ None

-- these files are told
pub record ArePathsTold (known : Ground) (paths : List (List ℕ)) : Type 0 where
  pub each : (path : List ℕ) → Contains paths path → IsTold (known.cells_of path)

-- this is one of the files, and nothing is told of it
pub record LacksPath (known : Ground) (paths : List (List ℕ)) (path : List ℕ) : Type 0 where
  pub there : Contains paths path
  pub untold : known.cells_of path ≡ None
