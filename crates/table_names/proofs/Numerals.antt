-- The digits of a number in base 36, and that they spell it.
use Rattle.std.proofs.Common.{◌≡◌, inr, ⊎_elim, ℕ, zero, suc, ◌+◌, ◌*◌, ◌/◌, ◌%◌, ◌^◌, ◌<◌, ◌≤◌, true, false, cond, List, [], ◌∷◌, ◌++◌, length, map, reverse, IsTrue, refl, sym, ◌∙◌, ap, subst, arith, append_assoc}
use Rattle.std.proofs.lemmas.List.{append-nil, map-append, length-map, reverse-append}
use Rattle.std.proofs.lemmas.Int.Digits.{digits_of_step, length-digits_of-le, all_below_base_digits_of, number_digits_of, length-digits_of_step}
use Rattle.std.proofs.lemmas.Bool.{cases_lt}
use Rattle.std.proofs.lemmas.Bool.Decides.{nat_tests}
use Rattle.std.specs.Int.Digits.{digits_of, AllBelowBase, number_from_digits_after}
use Rattle.std.specs.List.{list_all}
use Rattle.std.specs.Fmt.{digit_glyph, digits_onto, digits}
use borrow.Author.Tests.{eq-eqb, ne_eqb}
use Rattle.row_keys.specs.Forms.{is_lower_or_digit, IsUserTableId, IsTableId}
use Rattle.store_layout.specs.Numbers.{digit_value, number_from, base36_number}
use Rattle.table_names.specs.Draws.{base36}

abbrev glyph : ℕ → ℕ
glyph digit = digit_glyph false digit

-- ---- the digits, one by one

onto_last : (k n : ℕ) (acc : List ℕ) → n < 36 → digits_onto (suc k) 36 false n acc ≡ glyph (n % 36) ∷ acc
onto_last k n acc small = ap (λ t. cond t (glyph (n % 36) ∷ acc) (digits_onto k 36 false (n / 36) (glyph (n % 36) ∷ acc))) (eq-eqb (n / 36) 0 (omega arith))

onto_more : (k n : ℕ) (acc : List ℕ) → 36 ≤ n → digits_onto (suc k) 36 false n acc ≡ digits_onto k 36 false (n / 36) (glyph (n % 36) ∷ acc)
onto_more k n acc big = ap (λ t. cond t (glyph (n % 36) ∷ acc) (digits_onto k 36 false (n / 36) (glyph (n % 36) ∷ acc))) (ne_eqb (n / 36) 0 (λ e. omega arith))

glyphs_step : (n : ℕ) (acc : List ℕ) → 0 < n → map glyph (digits_of 36 n) ++ acc ≡ map glyph (digits_of 36 (n / 36)) ++ (glyph (n % 36) ∷ acc)
glyphs_step n acc some =
    ap (λ ds. map glyph ds ++ acc) (digits_of_step 36 n (omega arith) some)
    ∙ ap (λ l. l ++ acc) (map-append glyph (digits_of 36 (n / 36)) (n % 36 ∷ []))
    ∙ append_assoc (map glyph (digits_of 36 (n / 36))) (glyph (n % 36) ∷ []) acc

onto_glyphs : (k n : ℕ) (acc : List ℕ) → 0 < n → n < 36 ^ k → digits_onto k 36 false n acc ≡ map glyph (digits_of 36 n) ++ acc
onto_glyphs zero n acc some small = absurd (omega arith)
onto_glyphs (suc k) n acc some small = ⊎_elim
    (λ low. onto_last k n acc low ∙ sym (glyphs_step n acc some ∙ ap (λ m. map glyph (digits_of 36 m) ++ (glyph (n % 36) ∷ acc)) (few n low)))
    (λ high. onto_more k n acc high ∙ onto_glyphs k (n / 36) (glyph (n % 36) ∷ acc) (omega arith) (omega arith) ∙ sym (glyphs_step n acc some))
    (cases_lt n 36)
  where
    few : (m : ℕ) → m < 36 → m / 36 ≡ 0
    few m low = omega arith

base36-glyphs : (n : ℕ) → 0 < n → n < 2 ^ 64 → base36 n ≡ map glyph (digits_of 36 n)
unfolding digits
base36-glyphs n some small = onto_glyphs 64 n [] some (omega arith) ∙ append-nil _

pub base36_digit : (n : ℕ) → n < 36 → base36 n ≡ glyph n ∷ []
unfolding digits
base36_digit n small = onto_last 63 n [] small ∙ ap (λ d. glyph d ∷ []) (low n small)
  where
    low : (m : ℕ) → m < 36 → m % 36 ≡ m
    low m small = omega arith

pub base36_step : (n : ℕ) → 36 ≤ n → n < 2 ^ 64 → base36 n ≡ base36 (n / 36) ++ glyph (n % 36) ∷ []
base36_step n big small =
    base36-glyphs n (omega arith) small ∙ sym (append-nil _) ∙ glyphs_step n [] (omega arith)
    ∙ ap (λ l. l ++ glyph (n % 36) ∷ []) (sym (base36-glyphs (n / 36) (omega arith) (omega arith)))

-- ---- the number that they spell

digit_value-glyph : (d : ℕ) → d < 36 → digit_value (glyph d) ≡ d
digit_value-glyph d small = grind (arith, nat_tests)

lower-glyph : (d : ℕ) → d < 36 → is_lower_or_digit (glyph d) ≡ true
lower-glyph d small = grind (arith, nat_tests)

number_from-glyphs : (m : ℕ) (ds : List ℕ) → AllBelowBase 36 ds → number_from 36 m (map glyph ds) ≡ number_from_digits_after 36 m ds
number_from-glyphs m [] all = refl
number_from-glyphs m (d ∷ ds) all =
    ap (λ k. number_from 36 (36 * m + k) (map glyph ds)) (digit_value-glyph d all.0)
    ∙ ap (λ k. number_from 36 (k + d) (map glyph ds)) (turn m) ∙ number_from-glyphs (m * 36 + d) ds all.1
  where
    turn : (k : ℕ) → 36 * k ≡ k * 36
    turn k = omega arith

lower-glyphs : (ds : List ℕ) → AllBelowBase 36 ds → IsTrue (list_all is_lower_or_digit (map glyph ds))
lower-glyphs [] all = refl
lower-glyphs (d ∷ ds) all = grind (arith, nat_tests, lower-glyph d all.0, lower-glyphs ds all.1)

-- the digits spell their number
pub number-base36 : (n : ℕ) → 0 < n → n < 2 ^ 64 → base36_number (base36 n) ≡ n
number-base36 n some small =
    ap (number_from 36 0) (base36-glyphs n some small) ∙ number_from-glyphs 0 (digits_of 36 n) (all_below_base_digits_of 36 n (omega arith))
    ∙ number_digits_of 36 n (omega arith)

-- two numbers have two spellings
pub base36_injective : (n m : ℕ) → 0 < n → 0 < m → n < 2 ^ 64 → m < 2 ^ 64 → base36 n ≡ base36 m → n ≡ m
base36_injective n m some one small low is = sym (number-base36 n some small) ∙ ap base36_number is ∙ number-base36 m one low

length-glyphs : (n : ℕ) → 0 < n → 1 ≤ length (digits_of 36 n)
length-glyphs n some = omega (arith, length-digits_of_step 36 n (omega arith) some)

-- a drawn id is of the form of ids
pub IsUserTableId-base36 : (n : ℕ) → n < 2 ^ 64 → IsUserTableId (base36 n)
IsUserTableId-base36 n small = ⊎_elim
    (λ low. subst IsUserTableId (sym (base36_digit n low)) (record { least = omega arith; most = omega arith; each = lower-glyphs (n ∷ []) (low, tt) }))
    (λ high.
    let is : base36 n ≡ map glyph (digits_of 36 n) = base36-glyphs n (omega arith) small in
    let size : length (map glyph (digits_of 36 n)) ≡ length (digits_of 36 n) = length-map (digits_of 36 n) glyph in
    subst IsUserTableId (sym is) (record {
      least = omega (arith, length-glyphs n (omega arith), size);
      most = omega (arith, length-digits_of-le 36 13 n (omega arith) (omega arith), size);
      each = lower-glyphs (digits_of 36 n) (all_below_base_digits_of 36 n (omega arith));
    }))
    (cases_lt n 36)

pub IsTableId-base36 : (n : ℕ) → n < 2 ^ 64 → IsTableId (base36 n)
IsTableId-base36 n small = inr (inr (IsUserTableId-base36 n small))

-- ---- the digits, written from the last on

pub spelled_more : (rest digit : ℕ) (old new : List ℕ) → 36 ≤ rest → rest < 2 ^ 64 → new ≡ old ++ digit ∷ [] → digit ≡ digit_glyph false (rest % 36) → base36 (rest / 36) ++ reverse new ≡ base36 rest ++ reverse old
spelled_more rest digit old new big small is glyph_is =
    ap (λ l. base36 (rest / 36) ++ reverse l) is ∙ ap (λ l. base36 (rest / 36) ++ l) (reverse-append old (digit ∷ []))
    ∙ sym (append_assoc (base36 (rest / 36)) (digit ∷ []) (reverse old)) ∙ ap (λ d. base36 (rest / 36) ++ d ∷ [] ++ reverse old) glyph_is
    ∙ ap (λ l. l ++ reverse old) (sym (base36_step rest big small))

pub spelled_last : (rest digit : ℕ) (old new : List ℕ) → rest < 36 → new ≡ old ++ digit ∷ [] → digit ≡ digit_glyph false rest → reverse new ≡ base36 rest ++ reverse old
spelled_last rest digit old new small is glyph_is =
    ap reverse is ∙ reverse-append old (digit ∷ []) ∙ ap (λ d. d ∷ [] ++ reverse old) glyph_is ∙ ap (λ l. l ++ reverse old) (sym (base36_digit rest small))
