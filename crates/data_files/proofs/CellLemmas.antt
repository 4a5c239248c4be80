-- What stands in front of bytes is one cell, and one rest.
use Rattle.std.proofs.Common.{◌≡◌, ℕ, ◌^◌, ◌<◌, ◌≤◌, Bool, true, false, ◌++◌, length, Option, Some, None, IfSome, refl, sym, ◌∙◌, ap, arith, append_assoc}
use Rattle.std.specs.Int.{w8, w16, w64}
use Rattle.std.proofs.lemmas.Bool.{false≢true}
use Rattle.row_keys.specs.declared.key.Key.{Key}
use Rattle.bytes_form.specs.Fields.{number_field, flag_field, short_field, long_field, Takes, TakesNone}
use Rattle.bytes_form.specs.PrefixFree.{IsPrefixFree}
use Rattle.bytes_form.proofs.FieldsLemmas.{IsPrefixFree-number, IsPrefixFree-counted, IsPrefixFree-flag}
use Rattle.cell_merge.specs.declared.cell.Cell.{Cell}
use Rattle.cell_merge.specs.Newest.{Bytes}
use Rattle.data_files.specs.Cells.{spelled_key, spelled_value, spelled_cell, FitsKey, FitsCell}
use Rattle.data_files.specs.Parts.{StartsKey, StartsNoKey, StartsValue, StartsNoValue, StartsCell, StartsNoCell}

-- ---- keys

pub key_parts : (key : Key) (x : Bytes) → spelled_key key ++ x ≡ long_field key.row ++ (short_field key.family ++ (short_field key.qualifier ++ x))
key_parts key x = append_assoc (long_field key.row ++ short_field key.family) (short_field key.qualifier) x ∙ append_assoc (long_field key.row) (short_field key.family) (short_field key.qualifier ++ x)

same_row : (a b x y : Bytes) → length a < 2 ^ 16 → length b < 2 ^ 16 → long_field a ++ x ≡ long_field b ++ y → (a ≡ b) × (x ≡ y)
same_row a b x y fits_a fits_b e = IsPrefixFree-counted w16 a b x y (omega (arith, fits_a)) (omega (arith, fits_b)) e

same_name : (a b x y : Bytes) → length a < 2 ^ 8 → length b < 2 ^ 8 → short_field a ++ x ≡ short_field b ++ y → (a ≡ b) × (x ≡ y)
same_name a b x y fits_a fits_b e = IsPrefixFree-counted w8 a b x y (omega (arith, fits_a)) (omega (arith, fits_b)) e

pub IsPrefixFree-key : IsPrefixFree FitsKey spelled_key
IsPrefixFree-key a b x y fits_a fits_b e =
    let rows = same_row a.row b.row (short_field a.family ++ (short_field a.qualifier ++ x)) (short_field b.family ++ (short_field b.qualifier ++ y)) (omega (arith, fits_a.row)) (omega (arith, fits_b.row)) (sym (key_parts a x) ∙ e ∙ key_parts b y) in
    let families = same_name a.family b.family (short_field a.qualifier ++ x) (short_field b.qualifier ++ y) fits_a.family fits_b.family rows.1 in
    let qualifiers = same_name a.qualifier b.qualifier x y fits_a.qualifier fits_b.qualifier families.1 in
    (λ i. record { row = rows.0 i; family = families.0 i; qualifier = qualifiers.0 i }, qualifiers.1)

pub some_key : (bytes row family qualifier x y z : Bytes) → Takes (long_field row) x bytes → Takes (short_field family) y x → Takes (short_field qualifier) z y
    → bytes ≡ spelled_key (record { row = row; family = family; qualifier = qualifier }) ++ z
some_key bytes row family qualifier x y z one two three =
    one.is ∙ ap (λ (l : Bytes). long_field row ++ l) (two.is ∙ ap (λ (l : Bytes). short_field family ++ l) three.is) ∙ sym (key_parts (record { row = row; family = family; qualifier = qualifier }) z)

-- not even a row
pub no_row : (bytes : Bytes) → TakesNone long_field bytes → StartsNoKey bytes
no_row bytes none = record { none = λ key rest starts. none key.row (short_field key.family ++ (short_field key.qualifier ++ rest)) (starts.is ∙ key_parts key rest) }

-- what a key that stands there has behind its row
behind_row : (bytes row x : Bytes) → Takes (long_field row) x bytes → length row < 2 ^ 16 → (key : Key) (rest : Bytes) → StartsKey bytes key rest → (row ≡ key.row) × (x ≡ short_field key.family ++ (short_field key.qualifier ++ rest))
behind_row bytes row x takes fits key rest starts =
    same_row row key.row x (short_field key.family ++ (short_field key.qualifier ++ rest)) fits (omega (arith, starts.fits.row)) (sym takes.is ∙ starts.is ∙ key_parts key rest)

pub no_family : (bytes row x : Bytes) → Takes (long_field row) x bytes → length row < 2 ^ 16 → TakesNone short_field x → StartsNoKey bytes
no_family bytes row x takes fits none = record { none = λ key rest starts. none key.family (short_field key.qualifier ++ rest) (behind_row bytes row x takes fits key rest starts).1 }

behind_family : (bytes row x family y : Bytes) → Takes (long_field row) x bytes → length row < 2 ^ 16 → Takes (short_field family) y x → length family < 2 ^ 8 → (key : Key) (rest : Bytes) → StartsKey bytes key rest → y ≡ short_field key.qualifier ++ rest
behind_family bytes row x family y takes fits next short key rest starts =
    (same_name family key.family y (short_field key.qualifier ++ rest) short starts.fits.family (sym next.is ∙ (behind_row bytes row x takes fits key rest starts).1)).1

pub no_qualifier : (bytes row x family y : Bytes) → Takes (long_field row) x bytes → length row < 2 ^ 16 → Takes (short_field family) y x → length family < 2 ^ 8 → TakesNone short_field y → StartsNoKey bytes
no_qualifier bytes row x family y takes fits next short none = record { none = λ key rest starts. none key.qualifier rest (behind_family bytes row x family y takes fits next short key rest starts) }

pub long_row : (bytes row x : Bytes) → Takes (long_field row) x bytes → length row < 2 ^ 16 → 300 < length row → StartsNoKey bytes
long_row bytes row x takes fits long = record {
  none = λ key rest starts. (let same = (behind_row bytes row x takes fits key rest starts).0 in let most = starts.fits.row in omega (arith, long, most, ap (length {A = ℕ}) same));
}

-- ---- values

some_parts : (value x : Bytes) → spelled_value (Some value) ++ x ≡ flag_field true ++ (long_field value ++ x)
some_parts value x = append_assoc (flag_field true) (long_field value) x

-- a value that fits its field, or none
abbrev pub FitsValue : Option Bytes → Type 0
FitsValue value = IfSome value (λ bytes. length bytes < 2 ^ 16)

pub IsPrefixFree-value : IsPrefixFree FitsValue spelled_value
IsPrefixFree-value None None x y fits_a fits_b e = (refl, (IsPrefixFree-flag false false x y tt tt e).1)
IsPrefixFree-value None (Some w) x y fits_a fits_b e = absurd (false≢true (IsPrefixFree-flag false true x (long_field w ++ y) tt tt (e ∙ some_parts w y)).0)
IsPrefixFree-value (Some v) None x y fits_a fits_b e = absurd (false≢true (sym (IsPrefixFree-flag true false (long_field v ++ x) y tt tt (sym (some_parts v x) ∙ e)).0))
IsPrefixFree-value (Some v) (Some w) x y fits_a fits_b e =
    let flags = IsPrefixFree-flag true true (long_field v ++ x) (long_field w ++ y) tt tt (sym (some_parts v x) ∙ e ∙ some_parts w y) in
    let values = same_row v w x y fits_a fits_b flags.1 in
    (ap Some values.0, values.1)

pub some_value : (bytes value x y : Bytes) → Takes (flag_field true) x bytes → Takes (long_field value) y x → bytes ≡ spelled_value (Some value) ++ y
some_value bytes value x y one two = one.is ∙ ap (λ (l : Bytes). flag_field true ++ l) two.is ∙ sym (some_parts value y)

pub no_flag : (bytes : Bytes) → TakesNone flag_field bytes → StartsNoValue bytes
no_flag bytes none = record { none = by }
  where
    by : (value : Option Bytes) (rest : Bytes) → StartsValue bytes value rest → ⊥
    by None rest starts = none false rest starts.is
    by (Some v) rest starts = none true (long_field v ++ rest) (starts.is ∙ some_parts v rest)

pub no_long : (flag : Bool) (bytes x : Bytes) → flag ≡ true → Takes (flag_field flag) x bytes → TakesNone long_field x → StartsNoValue bytes
no_long flag bytes x is takes none = record { none = by }
  where
    front : bytes ≡ flag_field true ++ x
    front = takes.is ∙ ap (λ b. flag_field b ++ x) is

    by : (value : Option Bytes) (rest : Bytes) → StartsValue bytes value rest → ⊥
    by None rest starts = false≢true (sym (IsPrefixFree-flag true false x rest tt tt (sym front ∙ starts.is)).0)
    by (Some v) rest starts = none v rest (IsPrefixFree-flag true true x (long_field v ++ rest) tt tt (sym front ∙ starts.is ∙ some_parts v rest)).1

-- ---- cells

pub cell_parts : (cell : Cell) (x : Bytes) → spelled_cell cell ++ x ≡ spelled_key cell.key ++ (number_field w64 cell.time ++ (spelled_value cell.value ++ x))
cell_parts cell x = append_assoc (spelled_key cell.key ++ number_field w64 cell.time) (spelled_value cell.value) x ∙ append_assoc (spelled_key cell.key) (number_field w64 cell.time) (spelled_value cell.value ++ x)

same_time : (a b : ℕ) (x y : Bytes) → a < 2 ^ 64 → b < 2 ^ 64 → number_field w64 a ++ x ≡ number_field w64 b ++ y → (a ≡ b) × (x ≡ y)
same_time a b x y fits_a fits_b e = IsPrefixFree-number w64 a b x y (omega (arith, fits_a)) (omega (arith, fits_b)) e

pub IsPrefixFree-cell : IsPrefixFree FitsCell spelled_cell
IsPrefixFree-cell a b x y fits_a fits_b e =
    let keys = IsPrefixFree-key a.key b.key (number_field w64 a.time ++ (spelled_value a.value ++ x)) (number_field w64 b.time ++ (spelled_value b.value ++ y)) fits_a.key fits_b.key (sym (cell_parts a x) ∙ e ∙ cell_parts b y) in
    let times = same_time a.time b.time (spelled_value a.value ++ x) (spelled_value b.value ++ y) (omega (arith, fits_a.time)) (omega (arith, fits_b.time)) keys.1 in
    let values = IsPrefixFree-value a.value b.value x y fits_a.value fits_b.value times.1 in
    (λ i. record { key = keys.0 i; time = times.0 i; value = values.0 i }, values.1)

pub no_key : (bytes : Bytes) → StartsNoKey bytes → StartsNoCell bytes
no_key bytes none = record { none = λ cell rest starts. none.none cell.key (number_field w64 cell.time ++ (spelled_value cell.value ++ rest)) (record { is = starts.is ∙ cell_parts cell rest; fits = starts.fits.key }) }

-- what a cell that stands there has behind its key
behind_key : (bytes : Bytes) (key : Key) (x : Bytes) → StartsKey bytes key x → (cell : Cell) (rest : Bytes) → StartsCell bytes cell rest → x ≡ number_field w64 cell.time ++ (spelled_value cell.value ++ rest)
behind_key bytes key x front cell rest starts =
    (IsPrefixFree-key key cell.key x (number_field w64 cell.time ++ (spelled_value cell.value ++ rest)) front.fits starts.fits.key (sym front.is ∙ starts.is ∙ cell_parts cell rest)).1

pub no_time : (bytes : Bytes) (key : Key) (x : Bytes) → StartsKey bytes key x → TakesNone (number_field w64) x → StartsNoCell bytes
no_time bytes key x front none = record { none = λ cell rest starts. none cell.time (spelled_value cell.value ++ rest) (behind_key bytes key x front cell rest starts) }

behind_time : (bytes : Bytes) (key : Key) (x : Bytes) (time : ℕ) (y : Bytes) → StartsKey bytes key x → Takes (number_field w64 time) y x → time < 2 ^ 64 → (cell : Cell) (rest : Bytes) → StartsCell bytes cell rest
    → (time ≡ cell.time) × (y ≡ spelled_value cell.value ++ rest)
behind_time bytes key x time y front takes fits cell rest starts =
    same_time time cell.time y (spelled_value cell.value ++ rest) fits (omega (arith, starts.fits.time)) (sym takes.is ∙ behind_key bytes key x front cell rest starts)

pub late_time : (bytes : Bytes) (key : Key) (x : Bytes) (time : ℕ) (y : Bytes) → StartsKey bytes key x → Takes (number_field w64 time) y x → time < 2 ^ 64 → 2 ^ 63 ≤ time → StartsNoCell bytes
late_time bytes key x time y front takes fits late = record {
  none = λ cell rest starts. (let same = (behind_time bytes key x time y front takes fits cell rest starts).0 in let before = starts.fits.time in omega (arith, late, same, before));
}

pub no_value : (bytes : Bytes) (key : Key) (x : Bytes) (time : ℕ) (y : Bytes) → StartsKey bytes key x → Takes (number_field w64 time) y x → time < 2 ^ 64 → StartsNoValue y → StartsNoCell bytes
no_value bytes key x time y front takes fits none = record {
  none = λ cell rest starts. none.none cell.value rest (record { is = (behind_time bytes key x time y front takes fits cell rest starts).1; fits = starts.fits.value });
}

pub some_cell : (bytes : Bytes) (key : Key) (x : Bytes) (time : ℕ) (y : Bytes) (value : Option Bytes) (z : Bytes) → StartsKey bytes key x → Takes (number_field w64 time) y x → StartsValue y value z → time < 2 ^ 63
    → StartsCell bytes (record { key = key; time = time; value = value }) z
some_cell bytes key x time y value z front takes ends before = record {
  is =
      front.is ∙ ap (λ (l : Bytes). spelled_key key ++ l) (takes.is ∙ ap (λ (l : Bytes). number_field w64 time ++ l) ends.is)
      ∙ sym (cell_parts (record { key = key; time = time; value = value }) z);
  fits = record { key = front.fits; time = before; value = ends.fits };
}
