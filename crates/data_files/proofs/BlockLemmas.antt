-- Where the blocks of a file and its index stand.
use Rattle.std.proofs.Common.{◌≡◌, ℕ, ◌+◌, ◌-◌, ◌*◌, ◌<◌, List, [], ◌∷◌, ◌++◌, length, take, drop, get_or, refl, sym, ◌∙◌, ap, arith, append_assoc, length-append, length-take, take-append-drop, drop-cons, add-one}
use Rattle.std.specs.Int.{w64}
use Rattle.std.specs.List.{flat_map}
use Rattle.std.proofs.lemmas.List.{take_at, drop_at, append-nil}
use Rattle.std.proofs.lemmas.List.Concat.{flat_map-append}
use Rattle.std.proofs.lemmas.List.FromFn.{length-map-range_with_len, get_or-map-range_with_len}
use Rattle.host_model.specs.Calls.{IsPart}
use Rattle.bytes_form.specs.Fields.{number_field}
use Rattle.bytes_form.proofs.FieldsLemmas.{length-number_field}
use Rattle.cell_merge.specs.declared.cell.Cell.{Cell}
use Rattle.cell_merge.specs.Newest.{Bytes}
use Rattle.data_files.specs.Blocks.{block_of, index_at, HasBlock, HasIndex}
use Rattle.data_files.specs.Cells.{spelled_cells}
use Rattle.data_files.specs.Files.{offset_of, block_count, block_offsets, head, tail, spelled_file, IsDataFile}
use Rattle.data_files.proofs.FileLemmas.{length-head}
use Rattle.data_files.proofs.SizeLemmas.{index, offset_of-all, spelled_cells-append}

-- what stands between a front and a back
part_of : (bytes front part back : Bytes) (at : ℕ) → bytes ≡ front ++ (part ++ back) → length front ≡ at → IsPart bytes at part
part_of bytes front part back at is long =
    ap (λ (l : Bytes). take (length part) (drop at l)) is ∙ ap (λ (l : Bytes). take (length part) l) (drop_at front (part ++ back) at long) ∙ take_at part back (length part) refl

-- cells up to a block, the block, and those behind it
cells_parts : (cells : List Cell) (n : ℕ) → spelled_cells cells ≡ spelled_cells (take n cells) ++ (spelled_cells (take 64 (drop n cells)) ++ spelled_cells (drop 64 (drop n cells)))
cells_parts cells n =
    ap spelled_cells (sym (take-append-drop n cells)) ∙ spelled_cells-append (take n cells) (drop n cells)
    ∙ ap (λ (l : Bytes). spelled_cells (take n cells) ++ l) (ap spelled_cells (sym (take-append-drop 64 (drop n cells))) ∙ spelled_cells-append (take 64 (drop n cells)) (drop 64 (drop n cells)))

cells_there : (bytes : Bytes) (cells : List Cell) (block : ℕ) → bytes ≡ spelled_file cells → IsPart bytes (offset_of cells (64 * block)) (spelled_cells (block_of cells block))
cells_there bytes cells block is =
    let n = 64 * block in
    let before = spelled_cells (take n cells) in
    let here = spelled_cells (take 64 (drop n cells)) in
    let behind = spelled_cells (drop 64 (drop n cells)) in
    part_of bytes (head cells ++ before) here (behind ++ tail cells) (offset_of cells n)
    (is ∙ ap (λ (l : Bytes). head cells ++ l ++ tail cells) (cells_parts cells n)
    ∙ append_assoc (head cells) (before ++ (here ++ behind)) (tail cells)
    ∙ ap (λ (l : Bytes). head cells ++ l) (append_assoc before (here ++ behind) (tail cells) ∙ ap (λ (l : Bytes). before ++ l) (append_assoc here behind (tail cells)))
    ∙ sym (append_assoc (head cells) before (here ++ (behind ++ tail cells))))
    (omega (arith, length-append (head cells) before, length-head cells))

-- numbers of eight bytes each
length-numbers : (ns : List ℕ) → length (flat_map (number_field w64) ns) ≡ 8 * length ns
length-numbers [] = refl
length-numbers (n ∷ ns) = omega (arith, length-append (number_field w64 n) (flat_map (number_field w64) ns), length-number_field w64 n, length-numbers ns)

-- the numbers up to one, that one, and those behind it
numbers_parts : (ns : List ℕ) (k : ℕ) → k < length ns → flat_map (number_field w64) ns ≡ flat_map (number_field w64) (take k ns) ++ (number_field w64 (get_or ns k 0) ++ flat_map (number_field w64) (drop (k + 1) ns))
numbers_parts ns k within =
    let split : drop k ns ≡ get_or ns k 0 ∷ drop (k + 1) ns = rw (drop-cons ns k 0, add-one) in
    ap (flat_map (number_field w64)) (sym (take-append-drop k ns)) ∙ flat_map-append (number_field w64) (take k ns) (drop k ns)
    ∙ ap (λ l. flat_map (number_field w64) (take k ns) ++ flat_map (number_field w64) l) split

-- what stands before the index
length-front : (cells : List Cell) → length (head cells ++ spelled_cells cells) ≡ index_at cells
length-front cells = omega (arith, length-append (head cells) (spelled_cells cells), length-head cells, offset_of-all cells)

file_is : (bytes : Bytes) (cells : List Cell) → bytes ≡ spelled_file cells → bytes ≡ (head cells ++ spelled_cells cells) ++ (index cells ++ number_field w64 (index_at cells))
unfolding tail
file_is bytes cells is = is

begins_there : (bytes : Bytes) (cells : List Cell) (block : ℕ) → bytes ≡ spelled_file cells → block < block_count cells → IsPart bytes (index_at cells + 8 * block) (number_field w64 (offset_of cells (64 * block)))
begins_there bytes cells block is within =
    let offsets = block_offsets cells in
    let long : length offsets ≡ block_count cells = length-map-range_with_len (λ b. offset_of cells (64 * b)) 0 (block_count cells) in
    let here : get_or offsets block 0 ≡ offset_of cells (64 * block) = get_or-map-range_with_len (λ b. offset_of cells (64 * b)) 0 (block_count cells) block block 0 within (omega arith) in
    let front = head cells ++ spelled_cells cells in
    let before = flat_map (number_field w64) (take block offsets) in
    let number = number_field w64 (offset_of cells (64 * block)) in
    let behind = flat_map (number_field w64) (drop (block + 1) offsets) in
    let end = number_field w64 (index_at cells) in
    part_of bytes (front ++ before) number (behind ++ end) (index_at cells + 8 * block)
    (file_is bytes cells is
    ∙ ap (λ (l : Bytes). front ++ (l ++ end)) (numbers_parts offsets block (omega (arith, long, within)) ∙ ap (λ (n : ℕ). before ++ (number_field w64 n ++ behind)) here)
    ∙ ap (λ (l : Bytes). front ++ l) (append_assoc before (number ++ behind) end ∙ ap (λ (l : Bytes). before ++ l) (append_assoc number behind end))
    ∙ sym (append_assoc front before (number ++ (behind ++ end))))
    (omega (arith, length-append front before, length-front cells, length-numbers (take block offsets), length-take block offsets, long, within))

pub has_block : (bytes : Bytes) (cells : List Cell) (block : ℕ) → IsDataFile bytes cells → block < block_count cells → HasBlock bytes cells block
has_block bytes cells block file within = record { cells_there = cells_there bytes cells block file.is; begins_there = begins_there bytes cells block file.is within }

pub has_index : (bytes : Bytes) (cells : List Cell) → IsDataFile bytes cells → HasIndex bytes cells
has_index bytes cells file =
    let front = head cells ++ spelled_cells cells in
    let end = number_field w64 (index_at cells) in
    let is = file_is bytes cells file.is in
    let long : length (block_offsets cells) ≡ block_count cells = length-map-range_with_len (λ b. offset_of cells (64 * b)) 0 (block_count cells) in
    let size : length bytes ≡ index_at cells + 8 * block_count cells + 8 =
    omega (arith, ap (length {A = ℕ}) is, length-append front (index cells ++ end), length-append (index cells) end, length-front cells, length-numbers (block_offsets cells), long, length-number_field w64 (index_at cells)) in
    record {
      size = size;
      begins_there =
          part_of bytes (front ++ index cells) end [] (length bytes - 8)
          (is ∙ sym (append_assoc front (index cells) end) ∙ ap (λ (l : Bytes). (front ++ index cells) ++ l) (sym (append-nil end)))
          (omega (arith, size, length-append front (index cells), length-front cells, length-numbers (block_offsets cells), long));
    }
