-- What a level tells, in the order of rows.
use Rattle.std.specs.Prelude.{◌≡◌, ◌↔◌, ℕ, true, List, map, Option, Some, IsTrue, Contains}
use Rattle.row_keys.specs.MetadataRow.{end_cmp}
use Rattle.row_keys.specs.RowOrder.{bytes_cmp}
use Rattle.metadata_schema.specs.declared.tablet.TabletRecord.{TabletRecord}
use Rattle.metadata_schema.specs.Bytes.{is_rising}
use Rattle.store_meaning.specs.Levels.{Level, IsRecordAt}
use Rattle.state_reader.specs.declared.level.LoadFlag.{LoadFlag}
use Rattle.state_reader.specs.LevelRows.{flag_of}

-- these are the records of a table, each of its form, in the order of their end rows, the last tablet's behind them all
pub record AreRecordsOf (level : Level) (table : List ℕ) (records : List TabletRecord) : Type 0 where
  pub each : (tablet : TabletRecord) → Contains records tablet ↔ (level.records table tablet.end ≡ Some tablet)
  pub forms : (end : Option (List ℕ)) (tablet : TabletRecord) → level.records table end ≡ Some tablet → IsRecordAt table end tablet
  pub order : IsTrue (is_rising end_cmp (map (λ tablet. tablet.end) records))

-- these are the paths to be deleted, in their order
pub record AreCandidatesOf (level : Level) (paths : List (List ℕ)) : Type 0 where
  pub each : (path : List ℕ) → Contains paths path ↔ (level.is_candidate path ≡ true)
  pub order : IsTrue (is_rising bytes_cmp paths)

-- these are the flags, in the order of their paths
pub record AreFlagsOf (level : Level) (flags : List LoadFlag) : Type 0 where
  pub each : (flag : LoadFlag) → Contains flags flag ↔ (level.flag flag.path ≡ Some (flag_of flag))
  pub order : IsTrue (is_rising bytes_cmp (map (λ flag. flag.path) flags))
