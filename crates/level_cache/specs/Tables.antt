-- The records of tables in a reading.
use Rattle.std.specs.Prelude.{◌≡◌, ◌↔◌, ℕ, if◌then◌else◌, List, map, Option, Some, None, IfSome, IsTrue, Contains}
use Rattle.row_keys.specs.MetadataRow.{IsMetadataRow, end_cmp}
use Rattle.metadata_schema.specs.declared.tablet.TabletRecord.{TabletRecord}
use Rattle.metadata_schema.specs.Bytes.{same, is_rising}
use Rattle.level_rows.specs.Chain.{Rows}
use Rattle.store_meaning.specs.Ground.{Ground}
use Rattle.store_meaning.specs.Levels.{Reading, root_rows, root_id, metadata_id}
use Rattle.state_reader.specs.declared.level.LevelKind.{LevelKind}
use Rattle.state_reader.specs.declared.level.LevelKind.TheVariants.{Metadata, Users}
use Rattle.level_scan.specs.Tablets.{MemoryAt}
use Rattle.level_cache.specs.Shown.{level_in, HaveMemoriesDownTo}

-- the level that has a table's records; the one record of `+r` is a node's
abbrev pub level_with : List ℕ → Option LevelKind
level_with table = if same table root_id then None else Some (if same table metadata_id then Metadata else Users)

-- a table's records where this level has them, or else those of `+r`
abbrev pub rows_on : Reading → Option LevelKind → List ℕ → Rows
rows_on reading None table = root_rows reading
rows_on reading (Some kind) table = (level_in reading kind).records table

-- a table's records
abbrev pub rows_in : Reading → List ℕ → Rows
rows_in reading table = rows_on reading (level_with table) table

-- at a tablet's row its record is found, if there is one, and at any other row nothing
pub record IsFoundIn (reading : Reading) (row : List ℕ) (found : Option TabletRecord) : Type 0 where
  pub tablet : (table : List ℕ) (end : Option (List ℕ)) → IsMetadataRow table end row → found ≡ rows_in reading table end
  pub none : ((table : List ℕ) (end : Option (List ℕ)) → IsMetadataRow table end row → ⊥) → found ≡ None

-- these are the records at these end rows, in the order of their end rows, the last tablet's behind them all
pub record AreRecordsAt (rows : Rows) (records : List TabletRecord) : Type 0 where
  pub each : (tablet : TabletRecord) → Contains records tablet ↔ (rows tablet.end ≡ Some tablet)
  pub order : IsTrue (is_rising end_cmp (map (λ tablet. tablet.end) records))

-- ---- memories

-- the tablets whose cells tell a table's records have their memories
abbrev pub HaveMemoriesOver : List ℕ → Ground → Reading → MemoryAt → Type 0
HaveMemoriesOver table known reading hosted = IfSome (level_with table) (λ kind. HaveMemoriesDownTo kind known reading hosted)

-- so for the table of a tablet's row
abbrev pub HaveMemoriesAbove : List ℕ → Ground → Reading → MemoryAt → Type 0
HaveMemoriesAbove row known reading hosted = (table : List ℕ) (end : Option (List ℕ)) → IsMetadataRow table end row → HaveMemoriesOver table known reading hosted
