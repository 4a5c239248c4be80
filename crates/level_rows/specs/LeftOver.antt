-- The records of a table that aren't in its chain.
use Rattle.std.specs.Prelude.{◌≡◌, ◌↔◌, ℕ, List, map, Some, Contains}
use Rattle.std.specs.List.{AllPairs}
use Rattle.std.specs.List.Sorted.{IsStrictlySortedBy}
use Rattle.row_keys.specs.MetadataRow.{end_cmp}
use Rattle.metadata_schema.specs.declared.tablet.TabletRecord.{TabletRecord}
use Rattle.level_rows.specs.Chain.{Rows}

-- no two records have the same table and end row
abbrev pub AreDistinct : List TabletRecord → Type 0
AreDistinct records = AllPairs (λ tablet other. tablet.table ≡ other.table → tablet.end ≡ other.end → ⊥) records

-- the record is one of the table's, and not in its chain
pub record IsLeftOver (rows : Rows) (chain : List TabletRecord) (tablet : TabletRecord) : Type 0 where
  pub there : rows tablet.end ≡ Some tablet
  pub apart : Contains chain tablet → ⊥

-- the table's records that aren't in its chain, in the order of their end rows
pub record AreLeftOver (table : List ℕ) (records chain left : List TabletRecord) : Type 0 where
  pub rising : IsStrictlySortedBy end_cmp (map (λ tablet. tablet.end) left)
  pub each : (tablet : TabletRecord) → Contains left tablet ↔ (Contains records tablet × (tablet.table ≡ table) × (Contains chain tablet → ⊥))
