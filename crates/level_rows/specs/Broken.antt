-- Where a table has no chain.
use Rattle.std.specs.Prelude.{◌≡◌, ◌⊎◌, ℕ, List, [], ◌∷◌, Option, Some, None}
use Rattle.metadata_schema.specs.declared.tablet.TabletRecord.{TabletRecord}
use Rattle.level_rows.specs.Chain.{Rows, effective_prev, IsBelowEnd}

-- the way ends in front of a row that isn't below the end row, or goes on from a row below it
abbrev pub BreaksOff : List ℕ → Option (List ℕ) → Type 0 → Type 0 → Type 0
BreaksOff low end last more = ((IsBelowEnd low end → ⊥) × last) ⊎ (IsBelowEnd low end × more)

-- the way down from an end row goes over these records and then to a row that isn't there, or to an effective previous row
-- that isn't below its end row
abbrev pub BreaksFrom : Rows → Option (List ℕ) → List TabletRecord → Type 0
BreaksFrom rows end [] = rows end ≡ None
BreaksFrom rows end (tablet ∷ lower) =
    (rows end ≡ Some tablet) × ((low : List ℕ) × (effective_prev rows tablet ≡ Some low) × BreaksOff low end (lower ≡ []) (BreaksFrom rows (Some low) lower))

-- on the way down from the last tablet a row isn't there, or an effective previous row isn't below its end row
abbrev pub IsBroken : Rows → Type 0
IsBroken rows = (way : List TabletRecord) × BreaksFrom rows None way
