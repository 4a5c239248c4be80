-- What tablets name of which nothing is told.
use Rattle.std.specs.Prelude.{◌≡◌, ℕ, List, Option, None, Contains}
use Rattle.metadata_schema.specs.declared.tablet.FileEntry.{FileEntry}
use Rattle.metadata_schema.specs.declared.tablet.TabletRecord.{TabletRecord}
use Rattle.store_meaning.specs.Ground.{Ground}
use Rattle.store_meaning.specs.Content.{logs_of}
use Rattle.store_meaning.specs.Readable.{IsTold}
use Rattle.state_reader.specs.declared.store_reading.Untold.{Untold}
use Rattle.state_reader.specs.declared.store_reading.Untold.TheVariants.{File, Log}
use Rattle.state_reader.specs.declared.store_reading.ChainFault.{ChainFault}
use Rattle.state_reader.specs.declared.store_reading.ChainFault.TheVariants.{Lacks, NoMemory}

-- ---- files and logs

-- the cells of each of these files are told
pub record AreFilesTold (known : Ground) (files : List FileEntry) : Type 0 where
  pub each : (file : FileEntry) → Contains files file → IsTold (known.cells_of file.path)

-- one of these files has this path, of which nothing is told
pub record LacksFile (known : Ground) (files : List FileEntry) (path : List ℕ) : Type 0 where
  pub file : FileEntry
  pub named : Contains files file
  pub path_is : file.path ≡ path
  pub untold : known.cells_of path ≡ None

-- the mutations of each of these logs are told
pub record AreLogsTold (known : Ground) (logs : List (List ℕ)) : Type 0 where
  pub each : (log : List ℕ) → Contains logs log → IsTold (known.mutations_of log)

-- this is one of the logs, and nothing is told of it
pub record LacksLog (known : Ground) (logs : List (List ℕ)) (log : List ℕ) : Type 0 where
  pub named : Contains logs log
  pub untold : known.mutations_of log ≡ None

-- ---- tablets

-- all files and logs that the tablet names are told, and the log of the session in its `loc`
pub record IsAllTold (known : Ground) (tablet : TabletRecord) : Type 0 where
  pub files : AreFilesTold known tablet.files
  pub logs : AreLogsTold known (logs_of tablet)

-- the tablet names this file or log, of which nothing is told
abbrev pub IsLacking : Ground → TabletRecord → Untold → Type 0
IsLacking known tablet (File path) = LacksFile known tablet.files path
IsLacking known tablet (Log log) = LacksLog known (logs_of tablet) log

-- each is a tablet of this table
pub record AreOfTable (table : List ℕ) (chain : List TabletRecord) : Type 0 where
  pub each : (tablet : TabletRecord) → Contains chain tablet → tablet.table ≡ table

-- one of these tablets has this end row, and names this file or log, of which nothing is told
pub record HasLacking (known : Ground) (chain : List TabletRecord) (end : Option (List ℕ)) (untold : Untold) : Type 0 where
  pub tablet : TabletRecord
  pub there : Contains chain tablet
  pub end_is : tablet.end ≡ end
  pub lacks : IsLacking known tablet untold

-- why the cells of these tablets aren't told; want of memory is free
abbrev pub ChainCause : Ground → List TabletRecord → ChainFault → Type 0
ChainCause known chain (Lacks end untold) = HasLacking known chain end untold
ChainCause known chain NoMemory = Unit {0}
