-- A file by blocks of 64 cells.
use Rattle.std.specs.Prelude.{◌≡◌, ℕ, ◌+◌, ◌-◌, ◌*◌, List, length, take, drop}
use Rattle.std.specs.Int.{w64}
use Rattle.host_model.specs.Calls.{IsPart}
use Rattle.bytes_form.specs.Fields.{number_field}
use Rattle.cell_merge.specs.declared.cell.Cell.{Cell}
use Rattle.cell_merge.specs.Newest.{Bytes}
use Rattle.data_files.specs.Cells.{spelled_cells}
use Rattle.data_files.specs.Files.{offset_of, block_count}

-- the cells of a block, from 0
abbrev pub block_of : List Cell → ℕ → List Cell
block_of cells block = take 64 (drop (64 * block) cells)

-- where the index begins
abbrev pub index_at : List Cell → ℕ
index_at cells = offset_of cells (length cells)

-- the block stands where it begins, and the index says at its place where that is
pub record HasBlock (bytes : Bytes) (cells : List Cell) (block : ℕ) : Type 0 where
  pub cells_there : IsPart bytes (offset_of cells (64 * block)) (spelled_cells (block_of cells block))
  pub begins_there : IsPart bytes (index_at cells + 8 * block) (number_field w64 (offset_of cells (64 * block)))

-- the index has eight bytes a block, and the last eight bytes of the file say where it begins
pub record HasIndex (bytes : Bytes) (cells : List Cell) : Type 0 where
  pub size : length bytes ≡ index_at cells + 8 * block_count cells + 8
  pub begins_there : IsPart bytes (length bytes - 8) (number_field w64 (index_at cells))
