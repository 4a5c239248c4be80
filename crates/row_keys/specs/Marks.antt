-- The marks of metadata rows.
use Rattle.std.specs.Prelude.{◌≡◌, ℕ, ◌≤◌, ◌==◌, ◌||◌, not, Bool, List, length, Option, IsTrue, IfSome}
use Rattle.std.specs.List.{list_all}
use Rattle.row_keys.specs.MetadataRow.{metadata_row}

-- `;` or `<`
abbrev pub is_mark : ℕ → Bool
is_mark byte = byte == 59 || byte == 60

-- no byte is a mark
abbrev pub is_unmarked : List ℕ → Bool
is_unmarked bytes = list_all (λ byte. not (is_mark byte)) bytes

-- the bytes before the first mark, and the end row behind it
pub record IsSplit (front : List ℕ) (end : Option (List ℕ)) (bytes : List ℕ) : Type 0 where
  pub unmarked : IsTrue (is_unmarked front)
  pub short : IfSome end (λ row. length row ≤ 256)
  pub is : bytes ≡ metadata_row front end
