-- Cells that agree with one.
use Rattle.std.specs.Prelude.{◌≡◌, List, Contains}
use Rattle.cell_merge.specs.declared.cell.Cell.{Cell}

-- two different cells have the same key and time
pub record Clash (one other : Cell) : Type 0 where
  pub key : one.key ≡ other.key
  pub time : one.time ≡ other.time
  pub apart : one ≡ other → ⊥

-- where they have the same key and time, they are the same
pub record Accord (one other : Cell) : Type 0 where
  pub same : one.key ≡ other.key → one.time ≡ other.time → one ≡ other

-- each of the cells with this cell's key and time is this cell
pub record AgreesWith (cells : List Cell) (cell : Cell) : Type 0 where
  pub each : (other : Cell) → Contains cells other → other.key ≡ cell.key → other.time ≡ cell.time → other ≡ cell
