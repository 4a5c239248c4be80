-- The chain of a table: the way of its records by effective previous rows, from the last tablet down.
use Rattle.std.specs.Prelude.{◌≡◌, ℕ, Bool, false, ◌&&◌, List, [], ◌∷◌, Option, Some, None, is_some, IsTrue, find, reverse, if◌then◌else◌}
use Rattle.std.specs.Option.{option_eq}
use Rattle.row_keys.specs.RowOrder.{is_below}
use Rattle.metadata_schema.specs.declared.tablet.TabletRecord.{TabletRecord}
use Rattle.metadata_schema.specs.Bytes.{same}

-- A table's records by their end rows. None is the last tablet's
abbrev pub Rows : Type 0
Rows = Option (List ℕ) → Option TabletRecord

-- the same end row, or twice the last tablet's
abbrev pub same_end : Option (List ℕ) → Option (List ℕ) → Bool
same_end = option_eq same

-- a record of this table and this end row
abbrev pub is_named : List ℕ → Option (List ℕ) → TabletRecord → Bool
is_named table end tablet = same tablet.table table && same_end tablet.end end

-- a table's records among these, by their end rows; of several with one name the first counts
abbrev pub rows_of : List ℕ → List TabletRecord → Rows
rows_of table records end = find (is_named table end) records

-- a record ends at this lower bound; none is no row
abbrev pub ends_at : Rows → Option (List ℕ) → Bool
ends_at rows None = false
ends_at rows (Some row) = is_some (rows (Some row))

-- between an old previous row, if there is one, and the new one
abbrev pub chosen_prev : Option (Option (List ℕ)) → Bool → Option (List ℕ) → Option (List ℕ)
chosen_prev None is_there prev = prev
chosen_prev (Some old) is_there prev = if is_there then prev else old

-- the old previous row where that is there and no record ends at the new one, else the new one
abbrev pub effective_prev : Rows → TabletRecord → Option (List ℕ)
effective_prev rows tablet = chosen_prev tablet.old_prev (ends_at rows tablet.prev) tablet.prev

-- a row is below an end row, where none is no limit
abbrev pub IsBelowEnd : List ℕ → Option (List ℕ) → Type 0
IsBelowEnd low None = Unit {0}
IsBelowEnd low (Some end) = IsTrue (is_below low end)

-- the way ends at the lower bound none, and goes on from any other, which is below the end row
abbrev pub GoesOn : Option (List ℕ) → Option (List ℕ) → Type 0 → (List ℕ → Type 0) → Type 0
GoesOn None end last more = last
GoesOn (Some low) end last more = IsBelowEnd low end × more low

-- the records on the way down from an end row to the lower bound none
abbrev pub IsChainFrom : Rows → Option (List ℕ) → List TabletRecord → Type 0
IsChainFrom rows end [] = ⊥
IsChainFrom rows end (tablet ∷ lower) =
    (rows end ≡ Some tablet) × (tablet.end ≡ end) × GoesOn (effective_prev rows tablet) end (lower ≡ []) (λ low. IsChainFrom rows (Some low) lower)

-- the chain, from the last tablet down
abbrev pub IsChain : Rows → List TabletRecord → Type 0
IsChain rows tablets = IsChainFrom rows None tablets

-- the chain of a table among records, in rising order
abbrev pub IsChainOf : List ℕ → List TabletRecord → List TabletRecord → Type 0
IsChainOf table records tablets = IsChain (rows_of table records) (reverse tablets)

-- there is a chain
abbrev pub HasChain : Rows → Type 0
HasChain rows = (tablets : List TabletRecord) × IsChain rows tablets
