-- The rows of hosted tablets, in their order.
use Rattle.std.specs.Prelude.{◌≡◌, ℕ, false, IsTrue, IsSome, List, Option, None}
use Rattle.std.specs.FinMap as map
use Rattle.row_keys.specs.RowOrder.{is_below, is_above}
use Rattle.hosted_memories.specs.Hosted.{HostedTablets}

-- no tablet of a row above this one is hosted
abbrev pub HasNoRow : HostedTablets → Option (List ℕ) → Type 0
HasNoRow hosted low = (row : List ℕ) → IsTrue (is_above low row) → map.get hosted row ≡ None

-- the tablet of this row above that one is hosted, and none of a row between them is
pub record IsNextRow (hosted : HostedTablets) (low : Option (List ℕ)) (row : List ℕ) : Type 0 where
  pub there : IsSome (map.get hosted row)
  pub above : IsTrue (is_above low row)
  pub first : (other : List ℕ) → IsSome (map.get hosted other) → IsTrue (is_above low other) → is_below other row ≡ false
