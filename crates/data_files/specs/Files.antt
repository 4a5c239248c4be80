-- The grammar of data files, and what the calls on them ensure.
use Rattle.std.specs.Prelude.{◌≡◌, ◌⊎◌, ℕ, ◌+◌, ◌*◌, ◌/◌, ◌^◌, ◌<◌, ◌≤◌, max, codes, List, [], ◌∷◌, ◌++◌, length, take, map, Option, Some, Result, OnOk, IsTrue}
use Rattle.std.specs.Int.{w64}
use Rattle.std.specs.List.{flat_map, range_with_len}
use Rattle.host_model.specs.Picture.{Image, Picture, file_at}
use Rattle.host_model.specs.State.{HostState}
use Rattle.host_model.specs.Calls.{IsOfFiles, Faulted}
use Rattle.host_model.specs.declared.fault.Stop.{Stop}
use Rattle.host_model.specs.declared.fault.Stop.TheVariants.{Host, Damaged, Full, NoMemory}
use Rattle.bytes_form.specs.Fields.{number_field}
use Rattle.cell_merge.specs.declared.cell.Cell.{Cell}
use Rattle.cell_merge.specs.Newest.{Bytes}
use Rattle.data_files.specs.Cells.{spelled_cells, AreFileCells}

-- the greatest of the cells' times, and 0 for no cells
abbrev pub greatest_time : List Cell → ℕ
greatest_time [] = 0
greatest_time (cell ∷ cells) = max cell.time (greatest_time cells)

-- where the cell of this number begins, from 0, or for the number of all cells what is behind them
abbrev pub offset_of : List Cell → ℕ → ℕ
offset_of cells number = 24 + length (spelled_cells (take number cells))

-- how many blocks of 64 cells there are, of which the last may have fewer
abbrev pub block_count : List Cell → ℕ
block_count cells = (length cells + 63) / 64

-- where each cell begins whose number is a multiple of 64
abbrev pub block_offsets : List Cell → List ℕ
block_offsets cells = map (λ block. offset_of cells (64 * block)) (range_with_len 0 (block_count cells))

-- the magic, the number of cells, and their greatest time
unfoldable pub head : List Cell → Bytes
head cells = codes "ACMDAT01" ++ number_field w64 (length cells) ++ number_field w64 (greatest_time cells)

-- the index, and where it begins
unfoldable pub tail : List Cell → Bytes
tail cells = flat_map (number_field w64) (block_offsets cells) ++ number_field w64 (offset_of cells (length cells))

-- a whole file
abbrev pub spelled_file : List Cell → Bytes
spelled_file cells = head cells ++ spelled_cells cells ++ tail cells

-- the bytes are a file of these cells, and nothing follows
pub record IsDataFile (bytes : Bytes) (cells : List Cell) : Type 0 where
  pub is : bytes ≡ spelled_file cells
  pub cells_are : AreFileCells cells
  pub short : length bytes < 2 ^ 64

-- the file is there, with these cells
pub record HoldsCells (name : Bytes) (cells : List Cell) (image : Image) : Type 0 where
  pub bytes : Bytes
  pub there : file_at image name ≡ Some bytes
  pub file : IsDataFile bytes cells

-- At Ok the file holds these cells, and so it does in each crash from then on until it is changed.
pub record WritesCells (name : Bytes) (cells : List Cell) {T E : Type 0} (result : Result T E) (old new : HostState) : Type 0 where
  pub done : IsTrue old.is_faithful → OnOk result (HoldsCells name cells new.files)
  pub lasts : IsTrue old.is_honest → OnOk result ((p : Picture) → new.may_leave p → HoldsCells name cells p.image)

-- the file isn't there, or no list of cells is its own
pub record IsDamaged (name : Bytes) (image : Image) : Type 0 where
  pub none : (cells : List Cell) → HoldsCells name cells image → ⊥

-- the file is there, with at most so many bytes
pub record IsShort (most : ℕ) (file : Option Bytes) : Type 0 where
  pub bytes : Bytes
  pub there : file ≡ Some bytes
  pub short : length bytes ≤ most

-- the file stays as it was, or is there with any bytes, at most so many
abbrev pub MayMake : ℕ → Option Bytes → Option Bytes → Type 0
MayMake most old new = (new ≡ old) ⊎ IsShort most new

-- why a file may not be written
abbrev pub WriteCause : Stop → HostState → HostState → Type 0
WriteCause (Host fault) old new = IsOfFiles fault × Faulted fault old new
WriteCause (Damaged name) old new = ⊥
WriteCause Full old new = ⊥
WriteCause NoMemory old new = Unit {0}

-- why a file may not be read
abbrev pub ReadCause : Bytes → Stop → HostState → HostState → Type 0
ReadCause name (Host fault) old new = IsOfFiles fault × Faulted fault old new
ReadCause name (Damaged damaged) old new = (damaged ≡ name) × (IsTrue old.is_faithful → IsDamaged name old.files)
ReadCause name Full old new = ⊥
ReadCause name NoMemory old new = Unit {0}
