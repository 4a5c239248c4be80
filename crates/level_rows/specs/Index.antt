-- The map by which a table's records are found.
use Rattle.std.specs.Prelude.{◌≡◌, ℕ, List, Bool, true, not, map, Option, Some, None, is_some}
use Rattle.std.specs.BTreeMap.{BTreeMap, IsOrdered, get_by, values}
use Rattle.std.specs.List.{AllByRecursion}
use Rattle.std.specs.Option.{option_copied, option_cmp}
use Rattle.std.specs.Map.Iter.{deref}
use Rattle.std.specs.Borrow.{Bor}
use Rattle.row_keys.specs.RowOrder.{bytes_cmp, is_below}
use Rattle.metadata_schema.specs.declared.tablet.TabletRecord.{TabletRecord}
use Rattle.level_rows.specs.Chain.{rows_of}

abbrev pub Ends : Type 0
Ends = BTreeMap (Bor (Option (List ℕ))) (Bor TabletRecord)

-- what it has at an end row
abbrev pub found_at : Ends → Option (List ℕ) → Option TabletRecord
found_at ends end = option_copied (get_by (λ other. option_cmp bytes_cmp end other.now) ends)

-- the records that it holds
abbrev pub records_in : Ends → List TabletRecord
records_in ends = map deref (values ends)

-- it has none at the record's end row
abbrev pub is_apart : Ends → TabletRecord → Bool
is_apart ends tablet = not (is_some (found_at ends tablet.end))

-- it finds the records of a table among these
pub record IsIndexOf (table : List ℕ) (records : List TabletRecord) (ends : Ends) : Type 0 where
  pub finds : (end : Option (List ℕ)) → found_at ends end ≡ rows_of table records end
  -- each record stands at its own end row
  pub own : AllByRecursion (λ entry. entry.0.now ≡ entry.1.now.end) ends.entries
  pub ordered : IsOrdered (λ end other. option_cmp bytes_cmp end.now other.now) ends

-- a row is below an end row, where none is no limit
abbrev pub is_below_end : List ℕ → Option (List ℕ) → Bool
is_below_end low None = true
is_below_end low (Some end) = is_below low end

-- each record that it finds stands at its own end row
abbrev pub FindsOwn : Ends → Type 0
FindsOwn ends = (end : Option (List ℕ)) (tablet : TabletRecord) → found_at ends end ≡ Some tablet → tablet.end ≡ end
