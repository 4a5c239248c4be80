-- What the private functions that read a file ensure.
use Rattle.std.specs.Prelude.{◌≡◌, ℕ, ◌%◌, ◌^◌, ◌<◌, ◌==◌, codes, List, [], ◌++◌, length, Option, IfSome, if◌then◌else◌}
use Rattle.std.specs.Int.{w64}
use Rattle.row_keys.specs.declared.key.Key.{Key}
use Rattle.bytes_form.specs.Fields.{number_field}
use Rattle.cell_merge.specs.declared.cell.Cell.{Cell}
use Rattle.cell_merge.specs.Newest.{Bytes}
use Rattle.data_files.specs.Cells.{spelled_key, spelled_value, spelled_cell, spelled_cells, FitsKey, FitsCell, AreFileCells}
use Rattle.data_files.specs.Files.{IsDataFile}

-- a key stands in front, and this behind it
pub record StartsKey (bytes : Bytes) (key : Key) (rest : Bytes) : Type 0 where
  pub is : bytes ≡ spelled_key key ++ rest
  pub fits : FitsKey key

pub record StartsNoKey (bytes : Bytes) : Type 0 where
  pub none : (key : Key) (rest : Bytes) → StartsKey bytes key rest → ⊥

-- a value or a removal stands in front, and this behind it
pub record StartsValue (bytes : Bytes) (value : Option Bytes) (rest : Bytes) : Type 0 where
  pub is : bytes ≡ spelled_value value ++ rest
  pub fits : IfSome value (λ value. length value < 2 ^ 16)

pub record StartsNoValue (bytes : Bytes) : Type 0 where
  pub none : (value : Option Bytes) (rest : Bytes) → StartsValue bytes value rest → ⊥

-- a cell stands in front, and this behind it
pub record StartsCell (bytes : Bytes) (cell : Cell) (rest : Bytes) : Type 0 where
  pub is : bytes ≡ spelled_cell cell ++ rest
  pub fits : FitsCell cell

pub record StartsNoCell (bytes : Bytes) : Type 0 where
  pub none : (cell : Cell) (rest : Bytes) → StartsCell bytes cell rest → ⊥

-- so many cells of a file stand in front, and this behind them
pub record StartsCells (count : ℕ) (bytes : Bytes) (cells : List Cell) (rest : Bytes) : Type 0 where
  pub is : bytes ≡ spelled_cells cells ++ rest
  pub counts : length cells ≡ count
  pub cells_are : AreFileCells cells

pub record StartsNoCells (count : ℕ) (bytes : Bytes) : Type 0 where
  pub none : (cells : List Cell) (rest : Bytes) → StartsCells count bytes cells rest → ⊥

-- the magic and two numbers stand in front, and this behind them
pub record StartsHead (bytes : Bytes) (count greatest : ℕ) (rest : Bytes) : Type 0 where
  pub is : bytes ≡ codes "ACMDAT01" ++ number_field w64 count ++ number_field w64 greatest ++ rest
  pub count_fits : count < 2 ^ 64
  pub greatest_fits : greatest < 2 ^ 64

pub record StartsNoHead (bytes : Bytes) : Type 0 where
  pub none : (count greatest : ℕ) (rest : Bytes) → StartsHead bytes count greatest rest → ⊥

-- no list of cells is the file's
pub record HasNone (bytes : Bytes) : Type 0 where
  pub none : (cells : List Cell) → IsDataFile bytes cells → ⊥

-- what the index has of the cell of this number, which begins at this offset: its offset, if it is the first of a block
abbrev pub index_part : ℕ → ℕ → Bytes
index_part number offset = if number % 64 == 0 then number_field w64 offset else []
