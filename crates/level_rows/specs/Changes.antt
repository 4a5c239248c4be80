-- How a table's rows change, one row at a time.
use Rattle.std.specs.Prelude.{◌≡◌, ◌⊎◌, ◌≢◌, ◌↔◌, ℕ, List, [], ◌∷◌, Option, Some, None, IsTrue, Contains, if◌then◌else◌}
use Rattle.row_keys.specs.RowOrder.{is_above}
use Rattle.metadata_schema.specs.declared.tablet.TabletRecord.{TabletRecord}
use Rattle.level_rows.specs.Chain.{Rows, same_end, effective_prev}

-- with this record at its end row
abbrev pub with_row : Rows → TabletRecord → Rows
with_row rows tablet end = if same_end end tablet.end then Some tablet else rows end

-- with no record at this end row
abbrev pub without_row : Rows → Option (List ℕ) → Rows
without_row rows gone end = if same_end end gone then None else rows end

-- the later records are the earlier ones with this one written at its row
pub record IsWritten (tablet : TabletRecord) (before after : List TabletRecord) : Type 0 where
  pub there : Contains after tablet
  pub others : (other : TabletRecord) → (other.table ≡ tablet.table → other.end ≡ tablet.end → ⊥) → Contains after other ↔ Contains before other

-- the later records are the earlier ones but for this row
pub record IsTakenOut (table : List ℕ) (end : Option (List ℕ)) (before after : List TabletRecord) : Type 0 where
  pub gone : (other : TabletRecord) → Contains after other → other.table ≡ table → other.end ≡ end → ⊥
  pub others : (other : TabletRecord) → (other.table ≡ table → other.end ≡ end → ⊥) → Contains after other ↔ Contains before other

-- a record written at a row that none of these has is beside their way: none of them is being split there
pub record IsBeside (tablets : List TabletRecord) (tablet : TabletRecord) : Type 0 where
  pub ends : (other : TabletRecord) → Contains tablets other → other.end ≢ tablet.end
  pub splits : (other : TabletRecord) → Contains tablets other → (other.old_prev ≡ None) ⊎ (other.prev ≢ tablet.end)

-- these records stand on the way as before
pub record StandAsBefore (old new : Rows) (tablets : List TabletRecord) : Type 0 where
  pub row : (tablet : TabletRecord) → Contains tablets tablet → new tablet.end ≡ old tablet.end
  pub prev : (tablet : TabletRecord) → Contains tablets tablet → effective_prev new tablet ≡ effective_prev old tablet

-- the last tablet has no end row, and a lower one's is above its previous row
abbrev pub EndsOr : Option (List ℕ) → Option (List ℕ) → Type 0 → (List ℕ → Type 0) → Type 0
EndsOr None prev last more = last
EndsOr (Some end) prev last more = IsTrue (is_above prev end) × more end

-- in rising order: each tablet's previous row is the end row of the one before, the first's is the one given, and none is being split
abbrev pub IsLinked : Option (List ℕ) → List TabletRecord → Type 0
IsLinked prev [] = ⊥
IsLinked prev (tablet ∷ higher) = (tablet.prev ≡ prev) × (tablet.old_prev ≡ None) × EndsOr tablet.end prev (higher ≡ []) (λ end. IsLinked (Some end) higher)
