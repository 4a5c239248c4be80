-- The extents of a chain's records.
use Rattle.std.specs.Prelude.{◌≡◌, ◌↔◌, ℕ, Bool, true, false, not, List, [], ◌∷◌, ◌++◌, Option, Some, None, IsTrue, Contains}
use Rattle.row_keys.specs.RowOrder.{is_below, is_above, is_within, have_common}
use Rattle.metadata_schema.specs.declared.tablet.TabletRecord.{TabletRecord}
use Rattle.level_rows.specs.Chain.{Rows, effective_prev, IsBelowEnd}

-- the row lies in the record's extent, above its effective previous row and up to its end row
abbrev pub holds_row : Rows → TabletRecord → List ℕ → Bool
holds_row rows tablet row = is_within (effective_prev rows tablet) tablet.end row

-- just one of these records has the row
pub record HasOneFor (rows : Rows) (tablets : List TabletRecord) (row : List ℕ) : Type 0 where
  pub holder : TabletRecord
  pub there : Contains tablets holder
  pub holds : IsTrue (holds_row rows holder row)
  pub only : (other : TabletRecord) → Contains tablets other → IsTrue (holds_row rows other row) → other ≡ holder

-- the record's extent meets the range (from, to]
abbrev pub meets_range : Rows → Option (List ℕ) → Option (List ℕ) → TabletRecord → Bool
meets_range rows from to tablet = have_common (effective_prev rows tablet) tablet.end from to

-- the tablet that holds the upper bound of a range, or the last one where there is none
abbrev pub ReachesUpTo : Rows → Option (List ℕ) → TabletRecord → Type 0
ReachesUpTo rows None tablet = tablet.end ≡ None
ReachesUpTo rows (Some to) tablet = IsTrue (holds_row rows tablet to)

-- a lower bound is at most a row
abbrev pub begins_by : Option (List ℕ) → List ℕ → Bool
begins_by None row = true
begins_by (Some low) row = not (is_below row low)

-- the tablet that holds the first row above the lower bound of a range, or the first one where there is none
abbrev pub ReachesDownTo : Rows → Option (List ℕ) → TabletRecord → Type 0
ReachesDownTo rows None tablet = effective_prev rows tablet ≡ None
ReachesDownTo rows (Some from) tablet = IsTrue (begins_by (effective_prev rows tablet) from) × IsBelowEnd from tablet.end

-- an end row lies above the lower bound of a range, and below its upper bound
abbrev pub EndsBetween : Option (List ℕ) → Option (List ℕ) → Option (List ℕ) → Type 0
EndsBetween from to None = ⊥
EndsBetween from to (Some row) = IsTrue (is_above from row) × IsBelowEnd row to

-- a chain in three pieces, from the last tablet down, of which the middle one meets the range: the tablet that reaches up to its
-- upper bound, and below it those that end between the bounds
pub record IsPieceFor (rows : Rows) (from to : Option (List ℕ)) (tablets above inside below : List TabletRecord) : Type 0 where
  pub whole : tablets ≡ above ++ (inside ++ below)
  pub outside_above : (tablet : TabletRecord) → Contains above tablet → meets_range rows from to tablet ≡ false
  pub met : (tablet : TabletRecord) → Contains inside tablet → meets_range rows from to tablet ≡ true
  pub outside_below : (tablet : TabletRecord) → Contains below tablet → meets_range rows from to tablet ≡ false
  pub highest : TabletRecord
  pub lower : List TabletRecord
  pub begins : inside ≡ highest ∷ lower
  pub up : ReachesUpTo rows to highest
  pub between : (tablet : TabletRecord) → Contains tablets tablet → Contains lower tablet ↔ EndsBetween from to tablet.end
  pub front : List TabletRecord
  pub lowest : TabletRecord
  pub finishes : inside ≡ front ++ lowest ∷ []
  pub down : ReachesDownTo rows from lowest
