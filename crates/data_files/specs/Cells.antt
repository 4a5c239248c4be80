-- How a cell is spelled as bytes.
use Rattle.std.specs.Prelude.{◌^◌, ◌<◌, ◌≤◌, true, false, List, ◌++◌, length, All, Option, Some, None, IfSome}
use Rattle.std.specs.Int.{w64}
use Rattle.std.specs.List.{flat_map}
use Rattle.row_keys.specs.declared.key.Key.{Key}
use Rattle.bytes_form.specs.Fields.{number_field, flag_field, short_field, long_field}
use Rattle.cell_merge.specs.declared.cell.Cell.{Cell}
use Rattle.cell_merge.specs.Newest.{Bytes, HaveRisingKeys}

-- the row behind two length bytes, the family and the qualifier behind one each
abbrev pub spelled_key : Key → Bytes
spelled_key key = long_field key.row ++ short_field key.family ++ short_field key.qualifier

-- the byte 0 for a removal, or the byte 1 and the value behind two length bytes
abbrev pub spelled_value : Option Bytes → Bytes
spelled_value None = flag_field false
spelled_value (Some value) = flag_field true ++ long_field value

-- the key, the time in eight bytes, and the value
abbrev pub spelled_cell : Cell → Bytes
spelled_cell cell = spelled_key cell.key ++ number_field w64 cell.time ++ spelled_value cell.value

-- one cell behind the other
abbrev pub spelled_cells : List Cell → Bytes
spelled_cells cells = flat_map spelled_cell cells

-- each part fits its field, and the row is one
pub record FitsKey (key : Key) : Type 0 where
  pub row : length key.row ≤ 300
  pub family : length key.family < 2 ^ 8
  pub qualifier : length key.qualifier < 2 ^ 8

-- the key and the value fit, and the time is below 2^63
pub record FitsCell (cell : Cell) : Type 0 where
  pub key : FitsKey cell.key
  pub time : cell.time < 2 ^ 63
  pub value : IfSome cell.value (λ value. length value < 2 ^ 16)

-- cells that a file can hold: each fits, and each key is below the next one
pub record AreFileCells (cells : List Cell) : Type 0 where
  pub each : All FitsCell cells
  pub rising : HaveRisingKeys cells
