-- The three steps of a split.
use Rattle.std.specs.Prelude.{◌≡◌, ◌≢◌, ◌⊎◌, ℕ, List, Some, None, IsTrue, Contains}
use Rattle.row_keys.specs.RowOrder.{is_above}
use Rattle.metadata_schema.specs.declared.tablet.TabletRecord.{TabletRecord}
use Rattle.level_rows.specs.Chain.{Rows, IsBelowEnd}

-- a record of a chain may be split at a row: it isn't being split, the row lies inside it, no record ends there, and no other record
-- of the chain is being split there
pub record MaySplit (rows : Rows) (above below : List TabletRecord) (tablet : TabletRecord) (at : List ℕ) : Type 0 where
  pub whole : tablet.old_prev ≡ None
  pub inside : IsTrue (is_above tablet.prev at) × IsBelowEnd at tablet.end
  pub free : rows (Some at) ≡ None
  pub others : (other : TabletRecord) → Contains above other ⊎ Contains below other → (other.old_prev ≡ None) ⊎ (other.prev ≢ Some at)

-- the upper half in the first step: the row of the split as its previous row, and the old one beside it
pub record IsBegun (tablet high : TabletRecord) (at : List ℕ) : Type 0 where
  pub end : high.end ≡ tablet.end
  pub prev : high.prev ≡ Some at
  pub old_prev : high.old_prev ≡ Some tablet.prev

-- the lower half
pub record IsLowerHalf (tablet low : TabletRecord) (at : List ℕ) : Type 0 where
  pub end : low.end ≡ Some at
  pub prev : low.prev ≡ tablet.prev
  pub old_prev : low.old_prev ≡ None

-- the upper half at the end
pub record IsUpperHalf (tablet high : TabletRecord) (at : List ℕ) : Type 0 where
  pub end : high.end ≡ tablet.end
  pub prev : high.prev ≡ Some at
  pub old_prev : high.old_prev ≡ None

-- the record has the extent of another, and isn't being split
pub record HasExtentOf (tablet other : TabletRecord) : Type 0 where
  pub end : other.end ≡ tablet.end
  pub prev : other.prev ≡ tablet.prev
  pub old_prev : other.old_prev ≡ None
