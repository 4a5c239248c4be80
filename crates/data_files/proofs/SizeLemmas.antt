-- How many bytes cells take, and where they stand.
use Rattle.std.proofs.Common.{◌≡◌, ◌≢◌, Bool, true, false, cond, eqb, ℕ, ◌+◌, ◌*◌, ◌%◌, ◌≤◌, List, [], ◌∷◌, ◌++◌, length, take, drop, map, Some, None, refl, sym, ◌∙◌, ap, arith, length-append, take-append-drop}
use Rattle.std.specs.Int.{w8, w16, w64}
use Rattle.std.specs.List.{flat_map, range_with_len}
use Rattle.std.proofs.lemmas.Bool.Decides.{nat_tests}
use Rattle.std.proofs.lemmas.List.{take_all, take-append-le, append-nil}
use Rattle.std.proofs.lemmas.List.Concat.{flat_map-append}
use Rattle.std.proofs.lemmas.List.FromFn.{length-map-range_with_len, get_or-map-range_with_len, map-range_with_len_more, fill_by_all}
use Rattle.row_keys.specs.declared.key.Key.{Key}
use Rattle.bytes_form.specs.Fields.{number_field, flag_field, short_field, long_field}
use Rattle.bytes_form.proofs.FieldsLemmas.{length-number_field, length-counted_field, length-flag_field}
use Rattle.cell_merge.specs.declared.cell.Cell.{Cell}
use Rattle.cell_merge.specs.Newest.{Bytes}
use Rattle.data_files.specs.Cells.{spelled_key, spelled_value, spelled_cell, spelled_cells}
use Rattle.data_files.specs.Files.{offset_of, block_count, block_offsets}
use Rattle.data_files.specs.Parts.{index_part}

pub length-spelled_key : (key : Key) → length (spelled_key key) ≡ 4 + length key.row + length key.family + length key.qualifier
length-spelled_key key =
    omega (arith, length-append (long_field key.row ++ short_field key.family) (short_field key.qualifier), length-append (long_field key.row) (short_field key.family), length-counted_field w16 key.row, length-counted_field w8 key.family, length-counted_field w8 key.qualifier)

pub length-spelled_value : (value : Bytes) → length (spelled_value (Some value)) ≡ 3 + length value
length-spelled_value value = omega (arith, length-append (flag_field true) (long_field value), length-flag_field true, length-counted_field w16 value)

pub length-spelled_none : length (spelled_value None) ≡ 1
length-spelled_none = length-flag_field false

pub length-spelled_cell : (cell : Cell) → length (spelled_cell cell) ≡ 12 + length cell.key.row + length cell.key.family + length cell.key.qualifier + length (spelled_value cell.value)
length-spelled_cell cell =
    omega (arith, length-append (spelled_key cell.key ++ number_field w64 cell.time) (spelled_value cell.value), length-append (spelled_key cell.key) (number_field w64 cell.time), length-spelled_key cell.key, length-number_field w64 cell.time)

-- each cell takes some bytes
pub count-le : (cells : List Cell) → length cells ≤ length (spelled_cells cells)
count-le [] = omega arith
count-le (c ∷ cs) = omega (arith, count-le cs, length-spelled_cell c, length-append (spelled_cell c) (spelled_cells cs))

pub spelled_cells-append : (xs ys : List Cell) → spelled_cells (xs ++ ys) ≡ spelled_cells xs ++ spelled_cells ys
spelled_cells-append xs ys = flat_map-append spelled_cell xs ys

pub spelled_cells-push : (xs : List Cell) (c : Cell) → spelled_cells (xs ++ c ∷ []) ≡ spelled_cells xs ++ spelled_cell c
spelled_cells-push xs c = flat_map-append spelled_cell xs (c ∷ []) ∙ ap (λ (l : Bytes). spelled_cells xs ++ l) (append-nil (spelled_cell c))

pub length-spelled_cells-push : (xs : List Cell) (c : Cell) → length (spelled_cells (xs ++ c ∷ [])) ≡ length (spelled_cells xs) + length (spelled_cell c)
length-spelled_cells-push xs c = ap (length {A = ℕ}) (spelled_cells-push xs c) ∙ length-append (spelled_cells xs) (spelled_cell c)

-- a front takes no more
pub length-spelled_cells-take : (xs : List Cell) (n : ℕ) → length (spelled_cells (take n xs)) ≤ length (spelled_cells xs)
length-spelled_cells-take xs n =
    omega (arith, ap (λ l. length (spelled_cells l)) (take-append-drop n xs), ap (length {A = ℕ}) (spelled_cells-append (take n xs) (drop n xs)), length-append (spelled_cells (take n xs)) (spelled_cells (drop n xs)))

-- ---- the index

-- more cells behind leave where the first ones stand
pub offset_of-append : (xs ys : List Cell) (n : ℕ) → n ≤ length xs → offset_of (xs ++ ys) n ≡ offset_of xs n
offset_of-append xs ys n within = ap (λ l. 24 + length (spelled_cells l)) (take-append-le n xs ys within)

pub offset_of-all : (xs : List Cell) → offset_of xs (length xs) ≡ 24 + length (spelled_cells xs)
offset_of-all xs = ap (λ l. 24 + length (spelled_cells l)) (take_all (length xs) xs (omega arith))

-- the offsets of the blocks that are there, by those of more cells
front_offsets : (xs ys : List Cell) → map (λ block. offset_of (xs ++ ys) (64 * block)) (range_with_len 0 (block_count xs)) ≡ block_offsets xs
front_offsets xs ys = sym (fill_by_all (λ block. offset_of (xs ++ ys) (64 * block)) (block_offsets xs) (block_count xs) 0 (length-map-range_with_len (λ block. offset_of xs (64 * block)) 0 (block_count xs)) (λ k below.
    get_or-map-range_with_len (λ block. offset_of xs (64 * block)) 0 (block_count xs) k k 0 below (omega arith)
    ∙ sym (offset_of-append xs ys (64 * k) (omega arith))))

-- one more cell in a block that is begun
pub block_offsets-same : (xs : List Cell) (c : Cell) → length xs % 64 ≢ 0 → block_offsets (xs ++ c ∷ []) ≡ block_offsets xs
block_offsets-same xs c begun =
    let same : block_count (xs ++ c ∷ []) ≡ block_count xs = omega (arith, length-append xs (c ∷ [])) in
    ap (λ n. map (λ block. offset_of (xs ++ c ∷ []) (64 * block)) (range_with_len 0 n)) same ∙ front_offsets xs (c ∷ [])

-- one more cell that begins a block
pub block_offsets-more : (xs : List Cell) (c : Cell) → length xs % 64 ≡ 0 → block_offsets (xs ++ c ∷ []) ≡ block_offsets xs ++ (24 + length (spelled_cells xs)) ∷ []
block_offsets-more xs c full =
    let more : block_count (xs ++ c ∷ []) ≡ block_count xs + 1 = omega (arith, length-append xs (c ∷ [])) in
    let there : 64 * block_count xs ≡ length xs = omega arith in
    let here : offset_of (xs ++ c ∷ []) (64 * block_count xs) ≡ 24 + length (spelled_cells xs) = ap (offset_of (xs ++ c ∷ [])) there ∙ offset_of-append xs (c ∷ []) (length xs) (omega arith) ∙ offset_of-all xs in
    ap (λ n. map (λ block. offset_of (xs ++ c ∷ []) (64 * block)) (range_with_len 0 n)) more
    ∙ map-range_with_len_more (λ block. offset_of (xs ++ c ∷ []) (64 * block)) 0 (block_count xs) (block_count xs) (omega arith)
    ∙ ap (λ (l : List ℕ). l ++ offset_of (xs ++ c ∷ []) (64 * block_count xs) ∷ []) (front_offsets xs (c ∷ []))
    ∙ ap (λ (n : ℕ). block_offsets xs ++ n ∷ []) here

abbrev pub index : List Cell → Bytes
index cells = flat_map (number_field w64) (block_offsets cells)

pub index-same : (xs : List Cell) (c : Cell) → length xs % 64 ≢ 0 → index (xs ++ c ∷ []) ≡ index xs
index-same xs c begun = ap (flat_map (number_field w64)) (block_offsets-same xs c begun)

pub index-more : (xs : List Cell) (c : Cell) (offset : ℕ) → length xs % 64 ≡ 0 → offset ≡ 24 + length (spelled_cells xs) → index (xs ++ c ∷ []) ≡ index xs ++ number_field w64 offset
index-more xs c offset full is =
    ap (flat_map (number_field w64)) (block_offsets-more xs c full)
    ∙ flat_map-append (number_field w64) (block_offsets xs) ((24 + length (spelled_cells xs)) ∷ [])
    ∙ ap (λ (l : Bytes). index xs ++ l) (append-nil (number_field w64 (24 + length (spelled_cells xs))))
    ∙ ap (λ (n : ℕ). index xs ++ number_field w64 n) (sym is)

-- one more cell
pub index-push : (xs : List Cell) (c : Cell) (offset : ℕ) → offset ≡ 24 + length (spelled_cells xs) → index (xs ++ c ∷ []) ≡ index xs ++ index_part (length xs) offset
index-push xs c offset is = by (eqb (length xs % 64) 0) refl
  where
    by : (b : Bool) → eqb (length xs % 64) 0 ≡ b → index (xs ++ c ∷ []) ≡ index xs ++ cond b (number_field w64 offset) []
    by true e = index-more xs c offset (grind (arith, nat_tests)) is
    by false e = index-same xs c (grind (arith, nat_tests)) ∙ sym (append-nil (index xs))
