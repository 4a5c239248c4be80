-- What the map of the latest cells holds.
use Rattle.std.specs.Prelude.{◌≡◌, List, map}
use Rattle.std.specs.BTreeMap.{BTreeMap, IsOrdered, get_by, values}
use Rattle.std.specs.List.{AllByRecursion}
use Rattle.std.specs.Option.{option_copied}
use Rattle.std.specs.Map.Iter.{deref}
use Rattle.std.specs.Borrow.{Bor}
use Rattle.row_keys.specs.declared.key.Key.{Key}
use Rattle.row_keys.specs.Keys.{key_cmp}
use Rattle.cell_merge.specs.declared.cell.Cell.{Cell}
use Rattle.cell_merge.specs.Newest.{latest}

-- the cells that it holds, in key order
abbrev pub cells_of : BTreeMap (Bor Key) (Bor Cell) → List Cell
cells_of index = map deref (values index)

-- at each key it has the latest of these cells
pub record IsIndexOf (cells : List Cell) (index : BTreeMap (Bor Key) (Bor Cell)) : Type 0 where
  pub latest_at : (key : Key) → option_copied (get_by (λ other. key_cmp key other.now) index) ≡ latest cells key
  -- each cell stands at its own key
  pub own : AllByRecursion (λ entry. entry.0.now ≡ entry.1.now.key) index.entries
  pub ordered : IsOrdered (λ key other. key_cmp key.now other.now) index
