-- How many bytes the first file of the root tablet has.
use Rattle.std.proofs.Common.{◌≡◌, ℕ, ◌+◌, ◌*◌, List, [], ◌∷◌, ◌++◌, length, length-append, Option, Some, None, refl, ◌∙◌, arith}
use Rattle.std.specs.Fmt.{digits}
use Rattle.std.specs.Int.{w64}
use Rattle.std.specs.List.{flat_map}
use Rattle.std.proofs.lemmas.List.FromFn.{length-map-range_with_len}
use Rattle.bytes_form.specs.Fields.{number_field}
use Rattle.bytes_form.proofs.FieldsLemmas.{length-number_field}
use Rattle.cell_merge.specs.declared.cell.Cell.{Cell}
use Rattle.data_files.specs.Cells.{spelled_value, spelled_cell, spelled_cells}
use Rattle.data_files.specs.Files.{offset_of, block_count, block_offsets, head, tail, spelled_file}
use Rattle.data_files.proofs.FileLemmas.{length-head}
use Rattle.data_files.proofs.SizeLemmas.{length-spelled_value, length-spelled_none, length-spelled_cell}
use Rattle.store_layout.specs.NewStore.{first_cells}

abbrev pub value_size : Option (List ℕ) → ℕ
value_size None = 1
value_size (Some value) = 3 + length value

length-value : (value : Option (List ℕ)) → length (spelled_value value) ≡ value_size value
length-value None = length-spelled_none
length-value (Some value) = length-spelled_value value

abbrev cell_size : Cell → ℕ
cell_size cell = 12 + length cell.key.row + length cell.key.family + length cell.key.qualifier + value_size cell.value

abbrev cells_size : List Cell → ℕ
cells_size [] = 0
cells_size (c ∷ cs) = cell_size c + cells_size cs

length-cells : (cells : List Cell) → length (spelled_cells cells) ≡ cells_size cells
length-cells [] = refl
length-cells (c ∷ cs) = omega (arith, length-append (spelled_cell c) (spelled_cells cs), length-spelled_cell c, length-value c.value, length-cells cs)

length-numbers : (ns : List ℕ) → length (flat_map (number_field w64) ns) ≡ 8 * length ns
length-numbers [] = refl
length-numbers (n ∷ ns) = omega (arith, length-append (number_field w64 n) (flat_map (number_field w64) ns), length-number_field w64 n, length-numbers ns)

length-tail : (cells : List Cell) → length (tail cells) ≡ 8 * block_count cells + 8
unfolding tail
length-tail cells =
    omega (
      arith,
      length-append (flat_map (number_field w64) (block_offsets cells)) (number_field w64 (offset_of cells (length cells))),
      length-numbers (block_offsets cells),
      length-map-range_with_len (λ block. offset_of cells (64 * block)) 0 (block_count cells),
      length-number_field w64 (offset_of cells (length cells)),
    )

length-file : (cells : List Cell) → length (spelled_file cells) ≡ 32 + cells_size cells + 8 * block_count cells
length-file cells = omega (arith, length-append (head cells ++ spelled_cells cells) (tail cells), length-append (head cells) (spelled_cells cells), length-head cells, length-cells cells, length-tail cells)

first_sum : 32 + cells_size first_cells + 8 * block_count first_cells ≡ 222
unfolding digits
first_sum = refl

pub first_size : length (spelled_file first_cells) ≡ 222
first_size = length-file first_cells ∙ first_sum
