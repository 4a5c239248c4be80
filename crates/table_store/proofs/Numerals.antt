-- What a number's digits in base 36 are, and what they spell.
use Rattle.std.proofs.Common.{◌≡◌, inr, ⊎_elim, ℕ, zero, suc, ◌+◌, ◌*◌, ◌/◌, ◌%◌, ◌^◌, ◌<◌, ◌≤◌, true, false, cond, List, [], ◌∷◌, ◌++◌, length, map, reverse, drop, Option, Some, None, IsTrue, refl, sym, ◌∙◌, ap, subst, arith, append_assoc, get_or, add-one}
use Rattle.std.proofs.Math.Seq.{drop-cons}
use Rattle.std.proofs.lemmas.List.{append-nil, map-append, length-map, reverse-append}
use Rattle.std.proofs.lemmas.Int.Digits.{digits_of_step, length-digits_of-le, all_below_base_digits_of, number_digits_of, length-digits_of_step}
use Rattle.std.proofs.lemmas.Bool.{cases_lt}
use Rattle.std.proofs.lemmas.Bool.Decides.{nat_tests}
use Rattle.std.proofs.lemmas.Option.{same_Some}
use Rattle.std.specs.Int.Digits.{digits_of, AllBelowBase, number_from_digits_after}
use Rattle.std.specs.Option.{option_and_then}
use Rattle.std.specs.List.{list_all}
use Rattle.std.specs.Fmt.{digit_glyph, digits_onto, digits}
use borrow.Author.Tests.{eq-eqb, ne_eqb}
use Rattle.row_keys.specs.Forms.{is_lower_or_digit, IsUserTableId, IsTableId}
use Rattle.table_store.specs.Numbers.{base36, value_of, value_from}

abbrev glyph : ℕ → ℕ
glyph digit = digit_glyph false digit

-- ---- the digits, one by one

onto_last : (k n : ℕ) (acc : List ℕ) → n < 36 → digits_onto (suc k) 36 false n acc ≡ glyph (n % 36) ∷ acc
onto_last k n acc small = ap (λ t. cond t (glyph (n % 36) ∷ acc) (digits_onto k 36 false (n / 36) (glyph (n % 36) ∷ acc))) (eq-eqb (n / 36) 0 (omega arith))

onto_more : (k n : ℕ) (acc : List ℕ) → 36 ≤ n → digits_onto (suc k) 36 false n acc ≡ digits_onto k 36 false (n / 36) (glyph (n % 36) ∷ acc)
onto_more k n acc big = ap (λ t. cond t (glyph (n % 36) ∷ acc) (digits_onto k 36 false (n / 36) (glyph (n % 36) ∷ acc))) (ne_eqb (n / 36) 0 (λ e. omega arith))

glyphs_step : (n : ℕ) (acc : List ℕ) → 0 < n → map glyph (digits_of 36 n) ++ acc ≡ map glyph (digits_of 36 (n / 36)) ++ (glyph (n % 36) ∷ acc)
glyphs_step n acc some =
    ap (λ ds. map glyph ds ++ acc) (digits_of_step 36 n (omega arith) some)
    ∙ ap (λ l. l ++ acc) (map-append glyph (digits_of 36 (n / 36)) (n % 36 ∷ []))
    ∙ append_assoc (map glyph (digits_of 36 (n / 36))) (glyph (n % 36) ∷ []) acc

onto_glyphs : (k n : ℕ) (acc : List ℕ) → 0 < n → n < 36 ^ k → digits_onto k 36 false n acc ≡ map glyph (digits_of 36 n) ++ acc
onto_glyphs zero n acc some small = absurd (omega arith)
onto_glyphs (suc k) n acc some small = ⊎_elim
    (λ low. onto_last k n acc low ∙ sym (glyphs_step n acc some ∙ ap (λ m. map glyph (digits_of 36 m) ++ (glyph (n % 36) ∷ acc)) (few n low)))
    (λ high. onto_more k n acc high ∙ onto_glyphs k (n / 36) (glyph (n % 36) ∷ acc) (omega arith) (omega arith) ∙ sym (glyphs_step n acc some))
    (cases_lt n 36)
  where
    few : (m : ℕ) → m < 36 → m / 36 ≡ 0
    few m low = omega arith

base36-glyphs : (n : ℕ) → 0 < n → n < 2 ^ 64 → base36 n ≡ map glyph (digits_of 36 n)
unfolding digits
base36-glyphs n some small = onto_glyphs 64 n [] some (omega arith) ∙ append-nil _

pub base36_digit : (n : ℕ) → n < 36 → base36 n ≡ glyph n ∷ []
unfolding digits
base36_digit n small = onto_last 63 n [] small ∙ ap (λ d. glyph d ∷ []) (low n small)
  where
    low : (m : ℕ) → m < 36 → m % 36 ≡ m
    low m small = omega arith

pub base36_step : (n : ℕ) → 36 ≤ n → n < 2 ^ 64 → base36 n ≡ base36 (n / 36) ++ glyph (n % 36) ∷ []
base36_step n big small =
    base36-glyphs n (omega arith) small ∙ sym (append-nil _) ∙ glyphs_step n [] (omega arith)
    ∙ ap (λ l. l ++ glyph (n % 36) ∷ []) (sym (base36-glyphs (n / 36) (omega arith) (omega arith)))

-- ---- the number that they spell

value_of-glyph : (d : ℕ) → d < 36 → value_of (glyph d) ≡ Some d
value_of-glyph d small = grind (arith, nat_tests)

lower-glyph : (d : ℕ) → d < 36 → is_lower_or_digit (glyph d) ≡ true
lower-glyph d small = grind (arith, nat_tests)

value_from-glyphs : (m : ℕ) (ds : List ℕ) → AllBelowBase 36 ds → value_from m (map glyph ds) ≡ Some (number_from_digits_after 36 m ds)
value_from-glyphs m [] all = refl
value_from-glyphs m (d ∷ ds) all =
    ap (λ o. option_and_then (λ digit. value_from (36 * m + digit) (map glyph ds)) o) (value_of-glyph d all.0)
    ∙ ap (λ k. value_from (k + d) (map glyph ds)) (turn m) ∙ value_from-glyphs (m * 36 + d) ds all.1
  where
    turn : (k : ℕ) → 36 * k ≡ k * 36
    turn k = omega arith

lower-glyphs : (ds : List ℕ) → AllBelowBase 36 ds → IsTrue (list_all is_lower_or_digit (map glyph ds))
lower-glyphs [] all = refl
lower-glyphs (d ∷ ds) all = grind (arith, nat_tests, lower-glyph d all.0, lower-glyphs ds all.1)

-- a drawn id spells its number
pub value_from-base36 : (n : ℕ) → 0 < n → n < 2 ^ 64 → value_from 0 (base36 n) ≡ Some n
value_from-base36 n some small =
    ap (value_from 0) (base36-glyphs n some small) ∙ value_from-glyphs 0 (digits_of 36 n) (all_below_base_digits_of 36 n (omega arith))
    ∙ ap Some (number_digits_of 36 n (omega arith))

length-glyphs : (n : ℕ) → 0 < n → 1 ≤ length (digits_of 36 n)
length-glyphs n some = omega (arith, length-digits_of_step 36 n (omega arith) some)

-- a drawn id is of the form of ids
pub IsUserTableId-base36 : (n : ℕ) → n < 2 ^ 64 → IsUserTableId (base36 n)
IsUserTableId-base36 n small = ⊎_elim
    (λ low. subst IsUserTableId (sym (base36_digit n low)) (record { least = omega arith; most = omega arith; each = lower-glyphs (n ∷ []) (low, tt) }))
    (λ high.
    let is : base36 n ≡ map glyph (digits_of 36 n) = base36-glyphs n (omega arith) small in
    let size : length (map glyph (digits_of 36 n)) ≡ length (digits_of 36 n) = length-map (digits_of 36 n) glyph in
    subst IsUserTableId (sym is) (record {
      least = omega (arith, length-glyphs n (omega arith), size);
      most = omega (arith, length-digits_of-le 36 13 n (omega arith) (omega arith), size);
      each = lower-glyphs (digits_of 36 n) (all_below_base_digits_of 36 n (omega arith));
    }))
    (cases_lt n 36)

pub IsTableId-base36 : (n : ℕ) → n < 2 ^ 64 → IsTableId (base36 n)
IsTableId-base36 n small = inr (inr (IsUserTableId-base36 n small))

-- ---- the number of any id

grown : (m n : ℕ) (next : ℕ → Option ℕ) (o : Option ℕ) → ((k : ℕ) → next k ≡ Some n → k ≤ n) → option_and_then (λ digit. next (36 * m + digit)) o ≡ Some n → m ≤ n
grown m n next None later is = cc
grown m n next (Some digit) later is = omega (arith, later (36 * m + digit) is)

grows : (m : ℕ) (bytes : List ℕ) (n : ℕ) → value_from m bytes ≡ Some n → m ≤ n
grows m [] n is = omega (arith, same_Some _ _ is)
grows m (byte ∷ bytes) n is = grown m n (λ k. value_from k bytes) (value_of byte) (λ k found. grows k bytes n found) is

value_from-drop : (m : ℕ) (id : List ℕ) (i : ℕ) → i < length id → value_from m (drop i id) ≡ option_and_then (λ digit. value_from (36 * m + digit) (drop (i + 1) id)) (value_of (get_or id i 0))
value_from-drop m id i within = ap (value_from m) (drop-cons id i 0 within ∙ ap (λ j. get_or id i 0 ∷ drop j id) (sym (add-one i)))

-- a byte that is no digit
pub no_value : (m : ℕ) (id : List ℕ) (i : ℕ) → i < length id → value_of (get_or id i 0) ≡ None → value_from m (drop i id) ≡ None
no_value m id i within none = value_from-drop m id i within ∙ ap (λ o. option_and_then (λ digit. value_from (36 * m + digit) (drop (i + 1) id)) o) none

-- one digit more
pub value_more : (m digit : ℕ) (id : List ℕ) (i : ℕ) → i < length id → value_of (get_or id i 0) ≡ Some digit → value_from m (drop i id) ≡ value_from (36 * m + digit) (drop (i + 1) id)
value_more m digit id i within some = value_from-drop m id i within ∙ ap (λ o. option_and_then (λ k. value_from (36 * m + k) (drop (i + 1) id)) o) some

-- a number that is too great on the way is so at the end
pub value_past : (m digit : ℕ) (id : List ℕ) (i n : ℕ) → i < length id → value_of (get_or id i 0) ≡ Some digit → value_from m (drop i id) ≡ Some n → 36 * m + digit ≤ n
value_past m digit id i n within some is = grows (36 * m + digit) (drop (i + 1) id) n (sym (value_more m digit id i within some) ∙ is)

-- ---- the digits, written from the last on

pub spelled_more : (rest digit : ℕ) (old new : List ℕ) → 36 ≤ rest → rest < 2 ^ 64 → new ≡ old ++ digit ∷ [] → digit ≡ digit_glyph false (rest % 36) → base36 (rest / 36) ++ reverse new ≡ base36 rest ++ reverse old
spelled_more rest digit old new big small is glyph_is =
    ap (λ l. base36 (rest / 36) ++ reverse l) is ∙ ap (λ l. base36 (rest / 36) ++ l) (reverse-append old (digit ∷ []))
    ∙ sym (append_assoc (base36 (rest / 36)) (digit ∷ []) (reverse old)) ∙ ap (λ d. base36 (rest / 36) ++ d ∷ [] ++ reverse old) glyph_is
    ∙ ap (λ l. l ++ reverse old) (sym (base36_step rest big small))

pub spelled_last : (rest digit : ℕ) (old new : List ℕ) → rest < 36 → new ≡ old ++ digit ∷ [] → digit ≡ digit_glyph false rest → reverse new ≡ base36 rest ++ reverse old
spelled_last rest digit old new small is glyph_is =
    ap reverse is ∙ reverse-append old (digit ∷ []) ∙ ap (λ d. d ∷ [] ++ reverse old) glyph_is ∙ ap (λ l. l ++ reverse old) (sym (base36_digit rest small))
