-- A file's parts, as they are written and read.
use Rattle.std.proofs.Common.{◌≡◌, Bool, true, false, not, ℕ, ◌+◌, ◌^◌, ◌<◌, ◌≤◌, codes, List, [], ◌∷◌, ◌++◌, length, take, drop, get_or, All, refl, sym, ◌∙◌, ap, subst, arith, append_assoc, length-append, length-take, take-append-drop}
use Rattle.std.specs.Int.{w64}
use Rattle.std.specs.Str.{bytes_eq}
use Rattle.std.proofs.lemmas.List.{take_more}
use Rattle.std.proofs.lemmas.Slice.Eq.{bytes_eq-Decides}
use Rattle.std.proofs.lemmas.List.Elements.{All-nil, All-head, All-tail, All-push, All-take, All-drop}
use Rattle.bytes_form.specs.Fields.{number_field, Takes, TakesNone}
use Rattle.bytes_form.proofs.FieldsLemmas.{IsPrefixFree-number, length-number_field, parted}
use Rattle.cell_merge.specs.declared.cell.Cell.{Cell}
use Rattle.cell_merge.specs.Newest.{Bytes, HaveRisingKeys}
use Rattle.data_files.specs.Cells.{spelled_cell, spelled_cells, FitsCell, AreFileCells}
use Rattle.data_files.specs.Files.{greatest_time, head, tail, spelled_file, IsDataFile}
use Rattle.data_files.specs.Parts.{index_part, StartsCell, StartsNoCell, StartsCells, StartsNoCells, StartsHead, StartsNoHead, HasNone}
use Rattle.data_files.proofs.CellLemmas.{IsPrefixFree-cell}
use Rattle.data_files.proofs.OrderLemmas.{greatest_time-lt, rising-front}
use Rattle.data_files.proofs.SizeLemmas.{count-le, index, index-push, length-spelled_cells-push, offset_of-all, spelled_cells-append, spelled_cells-push}

-- ---- what stands in front of bytes is one list of so many cells, and one rest

pub one_cells : (xs ys : List Cell) (r s : Bytes) → All FitsCell xs → All FitsCell ys → length xs ≡ length ys → spelled_cells xs ++ r ≡ spelled_cells ys ++ s → (xs ≡ ys) × (r ≡ s)
one_cells [] [] r s fits_x fits_y long e = (refl, e)
one_cells [] (y ∷ ys) r s fits_x fits_y long e = absurd (omega arith)
one_cells (x ∷ xs) [] r s fits_x fits_y long e = absurd (omega arith)
one_cells (x ∷ xs) (y ∷ ys) r s fits_x fits_y long e =
    let first = IsPrefixFree-cell x y (spelled_cells xs ++ r) (spelled_cells ys ++ s) (All-head FitsCell x xs fits_x) (All-head FitsCell y ys fits_y)
    (sym (append_assoc (spelled_cell x) (spelled_cells xs) r) ∙ e ∙ append_assoc (spelled_cell y) (spelled_cells ys) s) in
    let rest = one_cells xs ys r s (All-tail FitsCell x xs fits_x) (All-tail FitsCell y ys fits_y) (omega arith) first.1 in
    (λ i. first.0 i ∷ rest.0 i, rest.1)

-- ---- cells that are read one after another

-- these cells stand in front, and this behind them
pub record ReadSoFar (bytes : Bytes) (read : List Cell) (rest : Bytes) : Type 0 where
  pub is : bytes ≡ spelled_cells read ++ rest
  pub cells_are : AreFileCells read

pub read_none : (bytes : Bytes) → HaveRisingKeys [] → ReadSoFar bytes [] bytes
read_none bytes up = record { is = refl; cells_are = record { each = All-nil FitsCell; rising = up } }

pub read_more : (bytes : Bytes) (read : List Cell) (rest : Bytes) (cell : Cell) (after : Bytes) → ReadSoFar bytes read rest → StartsCell rest cell after → HaveRisingKeys (read ++ cell ∷ []) → ReadSoFar bytes (read ++ cell ∷ []) after
read_more bytes read rest cell after so starts up = record {
  is =
      so.is ∙ ap (λ (l : Bytes). spelled_cells read ++ l) starts.is ∙ sym (append_assoc (spelled_cells read) (spelled_cell cell) after)
      ∙ ap (λ (l : Bytes). l ++ after) (sym (spelled_cells-push read cell));
  cells_are = record { each = All-push FitsCell read cell so.cells_are.each starts.fits; rising = up };
}

-- more cells than were read begin with those, and then with a cell that stands in front of the rest
pub record GoesOn (read : List Cell) (rest : Bytes) (all : List Cell) : Type 0 where
  pub cell : Cell
  pub more : List Cell
  pub is : all ≡ read ++ cell ∷ more
  pub behind : Bytes
  pub starts : StartsCell rest cell behind

next_of : (read : List Cell) (rest : Bytes) (more : List Cell) (end : Bytes) → 0 < length more → All FitsCell more → rest ≡ spelled_cells more ++ end → GoesOn read rest (read ++ more)
next_of read rest [] end some fits is = absurd (omega arith)
next_of read rest (c ∷ cs) end some fits is = record {
  cell = c;
  more = cs;
  is = refl;
  behind = spelled_cells cs ++ end;
  starts = record { is = is ∙ append_assoc (spelled_cell c) (spelled_cells cs) end; fits = All-head FitsCell c cs fits };
}

goes_on : (count : ℕ) (bytes : Bytes) (read : List Cell) (rest : Bytes) → ReadSoFar bytes read rest → length read < count → (all : List Cell) (end : Bytes) → StartsCells count bytes all end → GoesOn read rest all
goes_on count bytes read rest so below all end starts =
    let n = length read in
    let front = take n all in
    let more = drop n all in
    let parts : front ++ more ≡ all = take-append-drop n all in
    let enough : n < length all = let counts = starts.counts in omega arith in
    let spelled : spelled_cells all ++ end ≡ spelled_cells front ++ (spelled_cells more ++ end) =
    ap (λ l. spelled_cells l ++ end) (sym parts) ∙ ap (λ (l : Bytes). l ++ end) (spelled_cells-append front more) ∙ append_assoc (spelled_cells front) (spelled_cells more) end in
    let same = one_cells read front rest (spelled_cells more ++ end) so.cells_are.each (All-take FitsCell n all starts.cells_are.each) (omega (arith, length-take n all)) (sym so.is ∙ starts.is ∙ spelled) in
    let on = next_of read rest more end (omega (arith, ap (length {A = Cell}) parts, length-append front more, length-take n all)) (All-drop FitsCell n all starts.cells_are.each) same.1 in
    subst (GoesOn read rest) (ap (λ l. l ++ more) same.0 ∙ parts) on

pub cut_short : (count : ℕ) (bytes : Bytes) (read : List Cell) (rest : Bytes) → ReadSoFar bytes read rest → length read < count → StartsNoCell rest → StartsNoCells count bytes
cut_short count bytes read rest so below none = record { none = λ all end starts. let on = goes_on count bytes read rest so below all end starts in none.none on.cell on.behind on.starts }

pub out_of_order : (count : ℕ) (bytes : Bytes) (read : List Cell) (rest : Bytes) (cell : Cell) (after : Bytes) → ReadSoFar bytes read rest → length read < count → StartsCell rest cell after → (HaveRisingKeys (read ++ cell ∷ []) → ⊥) → StartsNoCells count bytes
out_of_order count bytes read rest cell after so below there falls = record {
  none = λ all end starts.
      let on = goes_on count bytes read rest so below all end starts in
      let same = (IsPrefixFree-cell cell on.cell after on.behind there.fits on.starts.fits (sym there.is ∙ on.starts.is)).0 in
      let parts : all ≡ (read ++ cell ∷ []) ++ on.more = on.is ∙ ap (λ c. read ++ c ∷ on.more) (sym same) ∙ sym (append_assoc read (cell ∷ []) on.more) in
      falls (rising-front (read ++ cell ∷ []) on.more (subst HaveRisingKeys parts starts.cells_are.rising));
}

pub read_all : (count : ℕ) (bytes : Bytes) (read : List Cell) (rest : Bytes) → ReadSoFar bytes read rest → length read ≡ count → StartsCells count bytes read rest
read_all count bytes read rest so counts = record { is = so.is; counts = counts; cells_are = so.cells_are }

-- ---- the head

abbrev magic : Bytes
magic = codes "ACMDAT01"

head_parts : (count greatest : ℕ) (rest : Bytes) → (magic ++ number_field w64 count ++ number_field w64 greatest) ++ rest ≡ magic ++ (number_field w64 count ++ (number_field w64 greatest ++ rest))
head_parts count greatest rest = append_assoc (magic ++ number_field w64 count) (number_field w64 greatest) rest ∙ append_assoc magic (number_field w64 count) (number_field w64 greatest ++ rest)

-- the test that compares the first bytes
pub same_magic : (front all : Bytes) → false ≡ not (bytes_eq front all) → all ≡ magic → front ≡ magic
same_magic front all test is = (bytes_eq-Decides front all).0 (is_true (bytes_eq front all) test) ∙ is
  where
    is_true : (b : Bool) → false ≡ not b → b ≡ true
    is_true true e = refl
    is_true false e = cc

pub some_head : (bytes : Bytes) (front back : Bytes) (count : ℕ) (x : Bytes) (greatest : ℕ) (y : Bytes) → front ≡ take 8 bytes → back ≡ drop 8 bytes → front ≡ magic → Takes (number_field w64 count) x back → count < 2 ^ 64 → Takes (number_field w64 greatest) y x → greatest < 2 ^ 64
    → StartsHead bytes count greatest y
some_head bytes front back count x greatest y first behind is one fits_count two fits_greatest = record {
  is =
      sym (take-append-drop 8 bytes) ∙ ap (λ (l : Bytes). l ++ drop 8 bytes) (sym first ∙ is) ∙ ap (λ (l : Bytes). magic ++ l) (sym behind ∙ one.is ∙ ap (λ (l : Bytes). number_field w64 count ++ l) two.is)
      ∙ sym (head_parts count greatest y);
  count_fits = fits_count;
  greatest_fits = fits_greatest;
}

length-head_parts : (count greatest : ℕ) (rest : Bytes) → 8 ≤ length (magic ++ (number_field w64 count ++ (number_field w64 greatest ++ rest)))
length-head_parts count greatest rest = omega (arith, length-append magic (number_field w64 count ++ (number_field w64 greatest ++ rest)))

pub short_head : (bytes : Bytes) → length bytes < 8 → StartsNoHead bytes
short_head bytes short = record { none = λ count greatest rest starts. omega (arith, short, ap (length {A = ℕ}) (starts.is ∙ head_parts count greatest rest), length-head_parts count greatest rest) }

-- the magic is the first eight bytes
its_magic : (bytes : Bytes) (count greatest : ℕ) (rest : Bytes) → StartsHead bytes count greatest rest → (take 8 bytes ≡ magic) × (drop 8 bytes ≡ number_field w64 count ++ (number_field w64 greatest ++ rest))
its_magic bytes count greatest rest starts =
    let e = take-append-drop 8 bytes ∙ starts.is ∙ head_parts count greatest rest in
    let long : length (take 8 bytes) ≡ length magic = omega (arith, ap (length {A = ℕ}) (starts.is ∙ head_parts count greatest rest), length-head_parts count greatest rest, length-take 8 bytes) in
    parted (take 8 bytes) magic (drop 8 bytes) (number_field w64 count ++ (number_field w64 greatest ++ rest)) long e

pub other_magic : (bytes front : Bytes) → front ≡ take 8 bytes → (front ≡ magic → ⊥) → StartsNoHead bytes
other_magic bytes front first other = record { none = λ count greatest rest starts. other (first ∙ (its_magic bytes count greatest rest starts).0) }

pub no_count : (bytes back : Bytes) → back ≡ drop 8 bytes → TakesNone (number_field w64) back → StartsNoHead bytes
no_count bytes back behind none = record { none = λ count greatest rest starts. none count (number_field w64 greatest ++ rest) (behind ∙ (its_magic bytes count greatest rest starts).1) }

pub no_greatest : (bytes back : Bytes) (count : ℕ) (x : Bytes) → back ≡ drop 8 bytes → Takes (number_field w64 count) x back → count < 2 ^ 64 → TakesNone (number_field w64) x → StartsNoHead bytes
no_greatest bytes back count x behind takes fits none = record {
  none = λ other greatest rest starts.
      let same = IsPrefixFree-number w64 count other x (number_field w64 greatest ++ rest) (omega (arith, fits)) (let o = starts.count_fits in omega (arith, o)) (sym takes.is ∙ behind ∙ (its_magic bytes other greatest rest starts).1) in
      none greatest rest same.1;
}

-- ---- whole files

file_parts : (cells : List Cell) → spelled_file cells ≡ (magic ++ number_field w64 (length cells) ++ number_field w64 (greatest_time cells)) ++ (spelled_cells cells ++ tail cells)
unfolding head
file_parts cells = append_assoc (head cells) (spelled_cells cells) (tail cells)

pub length-head : (cells : List Cell) → length (head cells) ≡ 24
unfolding head
length-head cells = omega (arith, length-append (magic ++ number_field w64 (length cells)) (number_field w64 (greatest_time cells)), length-append magic (number_field w64 (length cells)), length-number_field w64 (length cells), length-number_field w64 (greatest_time cells))

-- more than its cells
pub length-file : (cells : List Cell) → 24 + length (spelled_cells cells) ≤ length (spelled_file cells)
length-file cells = omega (arith, length-head cells, length-append (head cells ++ spelled_cells cells) (tail cells), length-append (head cells) (spelled_cells cells))

count-short : (bytes : Bytes) (cells : List Cell) → IsDataFile bytes cells → length cells < 2 ^ 64
count-short bytes cells file = let short = file.short in omega (arith, short, ap (length {A = ℕ}) file.is, length-file cells, count-le cells)

-- a file begins with its head
its_head : (bytes : Bytes) (cells : List Cell) → IsDataFile bytes cells → StartsHead bytes (length cells) (greatest_time cells) (spelled_cells cells ++ tail cells)
its_head bytes cells file = record { is = file.is ∙ file_parts cells; count_fits = count-short bytes cells file; greatest_fits = omega (arith, greatest_time-lt cells file.cells_are.each) }

-- in front of bytes stands one head
pub one_head : (bytes : Bytes) (a b c d : ℕ) (x y : Bytes) → StartsHead bytes a b x → StartsHead bytes c d y → (a ≡ c) × (b ≡ d) × (x ≡ y)
one_head bytes a b c d x y one two =
    let e = sym (its_magic bytes a b x one).1 ∙ (its_magic bytes c d y two).1 in
    let counts = IsPrefixFree-number w64 a c (number_field w64 b ++ x) (number_field w64 d ++ y) (let o = one.count_fits in omega (arith, o)) (let o = two.count_fits in omega (arith, o)) e in
    let times = IsPrefixFree-number w64 b d x y (let o = one.greatest_fits in omega (arith, o)) (let o = two.greatest_fits in omega (arith, o)) counts.1 in
    (counts.0, times.0, times.1)

pub no_head : (bytes : Bytes) → StartsNoHead bytes → HasNone bytes
no_head bytes none = record { none = λ cells file. none.none (length cells) (greatest_time cells) (spelled_cells cells ++ tail cells) (its_head bytes cells file) }

-- the cells and the tail of a file that begins so
its_cells : (bytes : Bytes) (count greatest : ℕ) (x : Bytes) → StartsHead bytes count greatest x → (cells : List Cell) → IsDataFile bytes cells → StartsCells count x cells (tail cells) × (greatest ≡ greatest_time cells)
its_cells bytes count greatest x starts cells file =
    let same = one_head bytes count greatest (length cells) (greatest_time cells) x (spelled_cells cells ++ tail cells) starts (its_head bytes cells file) in
    (record { is = same.2; counts = sym same.0; cells_are = file.cells_are }, same.1)

pub no_cells : (bytes : Bytes) (count greatest : ℕ) (x : Bytes) → StartsHead bytes count greatest x → StartsNoCells count x → HasNone bytes
no_cells bytes count greatest x starts none = record { none = λ cells file. none.none cells (tail cells) (its_cells bytes count greatest x starts cells file).0 }

-- the cells that were read are the file's
read_is : (bytes : Bytes) (count greatest : ℕ) (x : Bytes) (read : List Cell) (rest : Bytes) → StartsHead bytes count greatest x → StartsCells count x read rest → (cells : List Cell) → IsDataFile bytes cells
    → (read ≡ cells) × (rest ≡ tail cells) × (greatest ≡ greatest_time cells)
read_is bytes count greatest x read rest starts front cells file =
    let of_file = its_cells bytes count greatest x starts cells file in
    let same = one_cells read cells rest (tail cells) front.cells_are.each file.cells_are.each (front.counts ∙ sym of_file.0.counts) (sym front.is ∙ of_file.0.is) in
    (same.0, same.1, of_file.1)

pub other_greatest : (bytes : Bytes) (count greatest : ℕ) (x : Bytes) (read : List Cell) (rest : Bytes) → StartsHead bytes count greatest x → StartsCells count x read rest → (greatest_time read ≡ greatest → ⊥) → HasNone bytes
other_greatest bytes count greatest x read rest starts front other = record {
  none = λ cells file. (let same = read_is bytes count greatest x read rest starts front cells file in other (ap greatest_time same.0 ∙ sym same.2));
}

pub other_tail : (bytes : Bytes) (count greatest : ℕ) (x : Bytes) (read : List Cell) (rest : Bytes) → StartsHead bytes count greatest x → StartsCells count x read rest → (rest ≡ tail read → ⊥) → HasNone bytes
other_tail bytes count greatest x read rest starts front other = record {
  none = λ cells file. (let same = read_is bytes count greatest x read rest starts front cells file in other (same.1 ∙ ap tail (sym same.0)));
}

pub some_file : (bytes : Bytes) (count greatest : ℕ) (x : Bytes) (read : List Cell) (rest : Bytes) → length bytes < 2 ^ 64 → StartsHead bytes count greatest x → StartsCells count x read rest → greatest_time read ≡ greatest → rest ≡ tail read → IsDataFile bytes read
some_file bytes count greatest x read rest short starts front times end = record {
  is =
      starts.is
      ∙ ap (λ (n : ℕ). (magic ++ number_field w64 n ++ number_field w64 greatest) ++ x) (sym front.counts)
      ∙ ap (λ (n : ℕ). (magic ++ number_field w64 (length read) ++ number_field w64 n) ++ x) (sym times)
      ∙ ap (λ (l : Bytes). (magic ++ number_field w64 (length read) ++ number_field w64 (greatest_time read)) ++ l) (front.is ∙ ap (λ (l : Bytes). spelled_cells read ++ l) end)
      ∙ sym (file_parts read);
  cells_are = front.cells_are;
  short = short;
}

-- how many bytes cells take that were read
pub read_short : (bytes : Bytes) (count greatest : ℕ) (x : Bytes) (read : List Cell) (rest : Bytes) → length bytes < 2 ^ 64 → StartsHead bytes count greatest x → StartsCells count x read rest → 24 + length (spelled_cells read) < 2 ^ 64
read_short bytes count greatest x read rest short starts front =
    omega (
      arith,
      short,
      ap (length {A = ℕ}) (starts.is ∙ head_parts count greatest x),
      length-append magic (number_field w64 count ++ (number_field w64 greatest ++ x)),
      length-append (number_field w64 count) (number_field w64 greatest ++ x),
      length-append (number_field w64 greatest) x,
      length-number_field w64 count,
      length-number_field w64 greatest,
      ap (length {A = ℕ}) front.is,
      length-append (spelled_cells read) rest,
    )

-- a file has one list of cells
pub one_list : (bytes : Bytes) (cells same : List Cell) → IsDataFile bytes cells → IsDataFile bytes same → cells ≡ same
one_list bytes cells same one two =
    let first = its_head bytes cells one in
    let front : StartsCells (length cells) (spelled_cells cells ++ tail cells) cells (tail cells) = record { is = refl; counts = refl; cells_are = one.cells_are } in
    (read_is bytes (length cells) (greatest_time cells) (spelled_cells cells ++ tail cells) cells (tail cells) first front same two).0

-- ---- a file that is written

pub head_put : (cells : List Cell) (old a b new : Bytes) (greatest : ℕ) → a ≡ old ++ magic → b ≡ a ++ number_field w64 (length cells) → new ≡ b ++ number_field w64 greatest → greatest ≡ greatest_time cells → new ≡ old ++ head cells
unfolding head
head_put cells old a b new greatest one two three times =
    three
    ∙ ap (λ (l : Bytes). l ++ number_field w64 greatest) (two ∙ ap (λ (l : Bytes). l ++ number_field w64 (length cells)) one)
    ∙ ap (λ (n : ℕ). old ++ magic ++ number_field w64 (length cells) ++ number_field w64 n) times
    ∙ append_assoc (old ++ magic) (number_field w64 (length cells)) (number_field w64 (greatest_time cells))
    ∙ append_assoc old magic (number_field w64 (length cells) ++ number_field w64 (greatest_time cells))
    ∙ ap (λ (l : Bytes). old ++ l) (sym (append_assoc magic (number_field w64 (length cells)) (number_field w64 (greatest_time cells))))

pub tail_put : (cells : List Cell) (old mid new : Bytes) (offset : ℕ) → mid ≡ old ++ index cells → offset ≡ 24 + length (spelled_cells cells) → new ≡ mid ++ number_field w64 offset → new ≡ old ++ tail cells
unfolding tail
tail_put cells old mid new offset is counts last =
    last ∙ ap (λ (l : Bytes). l ++ number_field w64 offset) is ∙ append_assoc old (index cells) (number_field w64 offset)
    ∙ ap (λ (n : ℕ). old ++ (index cells ++ number_field w64 n)) (counts ∙ sym (offset_of-all cells))

-- one more cell of the index
pub index_put : (cells : List Cell) (i : ℕ) (cell : Cell) (old mid new : Bytes) (offset : ℕ) → i < length cells → cell ≡ get_or cells i cell → mid ≡ old ++ index (take i cells) → offset ≡ 24 + length (spelled_cells (take i cells)) → new ≡ mid ++ index_part i offset
    → new ≡ old ++ index (take (i + 1) cells)
index_put cells i cell old mid new offset within is so counts put =
    let long : length (take i cells) ≡ i = omega (arith, length-take i cells) in
    let all : take (i + 1) cells ≡ take i cells ++ cell ∷ [] = take_more cells i cell within ∙ ap (λ c. take i cells ++ c ∷ []) (sym is) in
    put ∙ ap (λ (l : Bytes). l ++ index_part i offset) so ∙ append_assoc old (index (take i cells)) (index_part i offset)
    ∙ ap (λ (l : Bytes). old ++ l) (ap (λ (n : ℕ). index (take i cells) ++ index_part n offset) (sym long) ∙ sym (index-push (take i cells) cell offset counts) ∙ ap index (sym all))

-- what the cells up to one take, and that one
pub size_put : (cells : List Cell) (i : ℕ) (cell : Cell) → i < length cells → cell ≡ get_or cells i cell → length (spelled_cells (take (i + 1) cells)) ≡ length (spelled_cells (take i cells)) + length (spelled_cell cell)
size_put cells i cell within is =
    ap (λ l. length (spelled_cells l)) (take_more cells i cell within ∙ ap (λ c. take i cells ++ c ∷ []) (sym is)) ∙ length-spelled_cells-push (take i cells) cell
