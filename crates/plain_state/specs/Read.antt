-- What of a reading is looked at on its own.
use Rattle.std.specs.Prelude.{ℕ, List}
use Rattle.store_meaning.specs.Ground.{Ground}
use Rattle.store_meaning.specs.Levels.{Reading}
use Rattle.store_meaning.specs.InUse.{IsFileInUse, IsLogInUse, IsListedSorted}
use Rattle.store_meaning.specs.Readable.{IsTold, IsSortedThere, ListsLogs}

-- each data file that counts is told
pub record AreFilesThere (known : Ground) (reading : Reading) : Type 0 where
  pub each : (path : List ℕ) → IsFileInUse reading path → IsTold (known.cells_of path)

-- the nodes list each log that has to be listed, each log that counts is told, and each sorted log that is listed is there
pub record AreLogsThere (known : Ground) (reading : Reading) : Type 0 where
  pub lists : ListsLogs known reading
  pub logs : (log : List ℕ) → IsLogInUse known.nodes reading log → IsTold (known.mutations_of log)
  pub sorted : (log : List ℕ) → IsListedSorted known.nodes log → IsSortedThere known log
