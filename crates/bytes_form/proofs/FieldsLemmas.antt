-- What is known of the spellings of fields.
use Rattle.std.proofs.Common.{◌≡◌, ℕ, ◌+◌, ◌%◌, ◌^◌, ◌<◌, ◌≤◌, Bool, true, false, List, [], ◌∷◌, ◌++◌, length, take, drop, take-append-drop, get_or, length-take, inl, inr, refl, sym, ap, ◌∙◌, arith, append_assoc, length-append}
use Rattle.std.specs.Int.{Width, w8, byte_len, to_be_bytes, from_bool}
use Rattle.std.proofs.lemmas.List.{take_at, drop_at, get_or-take, get_or_past}
use Rattle.std.proofs.lemmas.Bool.{cases_lt}
use Rattle.byteorder.specs.Endian.{big_number}
use Rattle.byteorder.specs.Numbers.{big_number-reads_back, length-bytes_high_first}
use Rattle.bytes_form.specs.Fields.{Takes, TakesNone, number_field, flag_field, counted_field}
use Rattle.bytes_form.specs.PrefixFree.{IsPrefixFree}

pub length-number_field : (w : Width) (n : ℕ) → length (number_field w n) ≡ byte_len w
unfolding number_field
length-number_field w n = length-bytes_high_first (byte_len w) n

pub length-counted_field : (w : Width) (bytes : List ℕ) → length (counted_field w bytes) ≡ byte_len w + length bytes
unfolding counted_field
length-counted_field w bytes = omega (arith, length-append (number_field w (length bytes)) bytes, length-number_field w (length bytes))

pub length-flag_field : (flag : Bool) → length (flag_field flag) ≡ 1
unfolding flag_field
length-flag_field false = refl
length-flag_field true = refl

-- the fronts of equal lists, and what is behind them
pub parted : {A : Type 0} (a b x y : List A) → length a ≡ length b → a ++ x ≡ b ++ y → (a ≡ b) × (x ≡ y)
parted {A} a b x y same e = (
  sym (take_at a x (length a) refl) ∙ ap (λ (l : List A). take (length a) l) e ∙ take_at b y (length a) (sym same),
  sym (drop_at a x (length a) refl) ∙ ap (λ (l : List A). drop (length a) l) e ∙ drop_at b y (length a) (sym same),
)

-- no number begins another one of its width
pub IsPrefixFree-number : (w : Width) → IsPrefixFree (λ n. n < 256 ^ byte_len w) (number_field w)
unfolding number_field
IsPrefixFree-number w a b x y fits_a fits_b e =
    let k = byte_len w in
    let same : a ≡ b =
    sym (big_number-reads_back k a x fits_a) ∙ ap (λ (l : List ℕ). big_number k l) e ∙ big_number-reads_back k b y fits_b in
    (same, (parted (number_field w a) (number_field w b) x y (length-number_field w a ∙ sym (length-number_field w b)) e).1)

pub IsPrefixFree-flag : IsPrefixFree (λ _. Unit {0}) flag_field
unfolding flag_field
IsPrefixFree-flag false false x y _ _ e = (refl, cc)
IsPrefixFree-flag false true x y _ _ e = absurd cc
IsPrefixFree-flag true false x y _ _ e = absurd cc
IsPrefixFree-flag true true x y _ _ e = (refl, cc)

-- nor do bytes behind their length
pub IsPrefixFree-counted : (w : Width) → IsPrefixFree (λ bytes. length bytes < 256 ^ byte_len w) (counted_field w)
unfolding counted_field
IsPrefixFree-counted w a b x y fits_a fits_b e =
    let heads = IsPrefixFree-number w (length a) (length b) (a ++ x) (b ++ y) fits_a fits_b
    (sym (append_assoc (number_field w (length a)) a x) ∙ e ∙ append_assoc (number_field w (length b)) b y) in
    parted a b x y heads.0 heads.1

-- the first bytes are bytes too
pub front_fits : (k : ℕ) (bytes front : List ℕ) → front ≡ take k bytes → ((i : ℕ) → get_or bytes i 0 < 256) → (i : ℕ) → get_or front i 0 < 256
front_fits k bytes front first each i =
    let same = ap (λ (l : List ℕ). get_or l i 0) first in
    elim (cases_lt i k) [
      | inl inside ↦ omega (arith, same, get_or-take k bytes i 0 inside, each i)
      | inr past ↦ omega (arith, same, get_or_past (take k bytes) i 0 (omega (arith, length-take k bytes)))
    ]

pub length_front : (k : ℕ) (bytes front : List ℕ) → front ≡ take k bytes → k ≤ length bytes → length front ≡ k
length_front k bytes front first enough = omega (arith, ap (length {A = ℕ}) first, length-take k bytes)

-- a number stands in front where its bytes are the first ones
pub takes_number : (w : Width) (n : ℕ) (bytes front rest : List ℕ) → to_be_bytes w n ≡ front → front ≡ take (byte_len w) bytes → rest ≡ drop (byte_len w) bytes → Takes (number_field w n) rest bytes
unfolding number_field
takes_number w n bytes front rest spelled first behind =
    record { is = sym (take-append-drop (byte_len w) bytes) ∙ ap (λ (l : List ℕ). l ++ drop (byte_len w) bytes) (sym first ∙ sym spelled) ∙ ap (λ (l : List ℕ). to_be_bytes w n ++ l) (sym behind) }

-- none stands in front of too few bytes
pub takes_no_number : (w : Width) (bytes : List ℕ) → length bytes < byte_len w → TakesNone (number_field w) bytes
takes_no_number w bytes few n rest e =
    omega (arith, few, ap (length {A = ℕ}) e, length-append (number_field w n) rest, length-number_field w n)

-- a byte spells itself
pub number_field-byte : (n : ℕ) → n < 256 → number_field w8 n ≡ n ∷ []
unfolding number_field
number_field-byte n fits = let same : n % 256 ≡ n = omega arith in ap (λ (m : ℕ). m ∷ []) same

pub takes_byte : (n : ℕ) (bytes rest : List ℕ) → get_or bytes 0 0 < 256 → bytes ≡ n ∷ rest → Takes (number_field w8 n) rest bytes
takes_byte n bytes rest fits is =
    let small : n < 256 = omega (arith, fits, ap (λ (l : List ℕ). get_or l 0 0) is) in
    record { is = is ∙ ap (λ (l : List ℕ). l ++ rest) (sym (number_field-byte n small)) }

pub takes_flag : (flag : Bool) (byte : ℕ) (bytes rest : List ℕ) → bytes ≡ byte ∷ rest → flag_field flag ≡ byte ∷ [] → Takes (flag_field flag) rest bytes
takes_flag flag byte bytes rest is spelled = record { is = is ∙ ap (λ (l : List ℕ). l ++ rest) (sym spelled) }

-- no flag stands in front of no bytes
pub takes_no_flag_yet : (bytes : List ℕ) → length bytes < 1 → TakesNone flag_field bytes
takes_no_flag_yet bytes few flag rest e =
    omega (arith, few, ap (length {A = ℕ}) e, length-append (flag_field flag) rest, length-flag_field flag)

-- nor of a byte above 1
pub takes_no_flag : (bytes : List ℕ) → 1 < get_or bytes 0 0 → TakesNone flag_field bytes
unfolding flag_field
takes_no_flag bytes high false rest e = omega (arith, high, ap (λ (l : List ℕ). get_or l 0 0) e)
takes_no_flag bytes high true rest e = omega (arith, high, ap (λ (l : List ℕ). get_or l 0 0) e)

pub flag_field-byte : (flag : Bool) → from_bool flag ∷ [] ≡ flag_field flag
unfolding flag_field
flag_field-byte false = refl
flag_field-byte true = refl

-- what was taken is what is spelled there
pub taken_number : (w : Width) (a b : ℕ) (rest y bytes : List ℕ) → Takes (number_field w a) rest bytes → a < 256 ^ byte_len w → b < 256 ^ byte_len w → bytes ≡ number_field w b ++ y → (a ≡ b) × (rest ≡ y)
taken_number w a b rest y bytes takes fits_a fits_b e =
    IsPrefixFree-number w a b rest y fits_a fits_b (sym takes.is ∙ e)

pub taken_flag : (a b : Bool) (rest y bytes : List ℕ) → Takes (flag_field a) rest bytes → bytes ≡ flag_field b ++ y → (a ≡ b) × (rest ≡ y)
taken_flag a b rest y bytes takes e = IsPrefixFree-flag a b rest y tt tt (sym takes.is ∙ e)

pub taken_counted : (w : Width) (a b rest y bytes : List ℕ) → Takes (counted_field w a) rest bytes → length a < 256 ^ byte_len w → length b < 256 ^ byte_len w → bytes ≡ counted_field w b ++ y → (a ≡ b) × (rest ≡ y)
taken_counted w a b rest y bytes takes fits_a fits_b e =
    IsPrefixFree-counted w a b rest y fits_a fits_b (sym takes.is ∙ e)
