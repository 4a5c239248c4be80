-- How a tablet's row in a metadata table, and its previous row, are spelled.
use Rattle.std.specs.Prelude.{◌≡◌, ℕ, ◌≤◌, List, [], ◌∷◌, ◌++◌, length, Option, Some, None, IfSome}
use Rattle.std.specs.declared.cmp.Ordering.{Ordering}
use Rattle.std.specs.declared.cmp.Ordering.TheVariants.{Less, Equal, Greater}
use Rattle.row_keys.specs.Forms.{IsTableId}
use Rattle.row_keys.specs.RowOrder.{bytes_cmp}

-- `;` and the end row behind the table's id, or `<` for the last tablet
abbrev pub metadata_row : List ℕ → Option (List ℕ) → List ℕ
metadata_row table (Some end) = table ++ 59 ∷ end
metadata_row table None = table ++ 60 ∷ []

-- a table's id, and an end row of at most 256 bytes or none
pub record IsTabletName (table : List ℕ) (end : Option (List ℕ)) : Type 0 where
  pub id : IsTableId table
  pub short : IfSome end (λ row. length row ≤ 256)

-- the row is spelled so
pub record IsMetadataRow (table : List ℕ) (end : Option (List ℕ)) (row : List ℕ) : Type 0 where
  pub name : IsTabletName table end
  pub is : row ≡ metadata_row table end

-- the byte 0 for no row, or the byte 1 and the row
abbrev pub prev_value : Option (List ℕ) → List ℕ
prev_value None = 0 ∷ []
prev_value (Some row) = 1 ∷ row

-- the value is spelled so, of a row of at most 300 bytes
pub record IsPrevValue (prev : Option (List ℕ)) (value : List ℕ) : Type 0 where
  pub short : IfSome prev (λ row. length row ≤ 300)
  pub is : value ≡ prev_value prev

-- end rows in their order, and behind them the last tablet's
abbrev pub end_cmp : Option (List ℕ) → Option (List ℕ) → Ordering
end_cmp (Some a) (Some b) = bytes_cmp a b
end_cmp (Some a) None = Less
end_cmp None (Some b) = Greater
end_cmp None None = Equal
