-- The digits of a session, written from the last on, and the number that they spell.
use Rattle.std.proofs.Common.{◌≡◌, ℕ, zero, suc, ◌+◌, ◌-◌, ◌*◌, ◌/◌, ◌%◌, ◌^◌, ◌<◌, ◌≤◌, List, [], ◌∷◌, ◌++◌, reverse, refl, sym, ◌∙◌, ap, arith, append_assoc, length, length-append, true, IsTrue}
use Rattle.std.proofs.lemmas.List.{append-nil, reverse-append}
use Rattle.std.proofs.lemmas.Bool.{and_parts, and_from}
use Rattle.std.proofs.lemmas.Bool.Decides.{nat_tests}
use Rattle.store_layout.specs.Words.{hexadecimal_digit}
use Rattle.std.specs.List.{list_all}
use Rattle.row_keys.specs.Forms.{is_hexadecimal, IsSessionId}
use Rattle.store_layout.specs.Numbers.{number_from, digit_value, base16_number}
use Rattle.server_nodes.specs.Sessions.{last_digits, session_of}

-- ---- written from the last on

pub digits_begin : (number : ℕ) (none : List ℕ) → none ≡ [] → last_digits (16 - 0) number ++ reverse none ≡ last_digits 16 number
digits_begin number none is = ap (λ l. last_digits 16 number ++ reverse l) is ∙ append-nil _

one_more : (count rest digit : ℕ) (old new : List ℕ) → new ≡ old ++ digit ∷ [] → digit ≡ hexadecimal_digit (rest % 16) → last_digits count (rest / 16) ++ reverse new ≡ last_digits (suc count) rest ++ reverse old
unfolding last_digits
one_more count rest digit old new is digit_is =
    ap (λ l. last_digits count (rest / 16) ++ reverse l) is ∙ ap (λ l. last_digits count (rest / 16) ++ l) (reverse-append old (digit ∷ []))
    ∙ sym (append_assoc (last_digits count (rest / 16)) (digit ∷ []) (reverse old)) ∙ ap (λ d. (last_digits count (rest / 16) ++ d ∷ []) ++ reverse old) digit_is

pub digits_more : (counter rest digit : ℕ) (old new : List ℕ) → counter < 16 → new ≡ old ++ digit ∷ [] → digit ≡ hexadecimal_digit (rest % 16)
    → last_digits (16 - (counter + 1)) (rest / 16) ++ reverse new ≡ last_digits (16 - counter) rest ++ reverse old
digits_more counter rest digit old new within is digit_is =
    let left : suc (16 - (counter + 1)) ≡ 16 - counter = omega arith in
    one_more (16 - (counter + 1)) rest digit old new is digit_is ∙ ap (λ c. last_digits c rest ++ reverse old) left

pub digits_end : (counter rest number : ℕ) (digits : List ℕ) → 16 ≤ counter → last_digits (16 - counter) rest ++ reverse digits ≡ last_digits 16 number → reverse digits ≡ last_digits 16 number
unfolding last_digits
digits_end counter rest number digits past is =
    let none : 16 - counter ≡ 0 = omega arith in
    sym (ap (λ c. last_digits c rest ++ reverse digits) none) ∙ is

-- ---- the form of a session

digits_length : (count number : ℕ) → length (last_digits count number) ≡ count
unfolding last_digits
digits_length zero number = refl
digits_length (suc count) number = length-append (last_digits count (number / 16)) (hexadecimal_digit (number % 16) ∷ []) ∙ let front = digits_length count (number / 16) in omega arith

all_behind : (xs : List ℕ) (y : ℕ) → IsTrue (list_all is_hexadecimal xs) → is_hexadecimal y ≡ true → IsTrue (list_all is_hexadecimal (xs ++ y ∷ []))
all_behind [] y all is = and_from (is_hexadecimal y) true is refl
all_behind (x ∷ xs) y all is =
    let parts = and_parts (is_hexadecimal x) (list_all is_hexadecimal xs) all in
    and_from (is_hexadecimal x) (list_all is_hexadecimal (xs ++ y ∷ [])) parts.0 (all_behind xs y parts.1 is)

digit_form : (digit : ℕ) → digit < 16 → is_hexadecimal (hexadecimal_digit digit) ≡ true
digit_form digit small = grind (arith, nat_tests)

digits_form : (count number : ℕ) → IsTrue (list_all is_hexadecimal (last_digits count number))
unfolding last_digits
digits_form zero number = refl
digits_form (suc count) number = all_behind (last_digits count (number / 16)) (hexadecimal_digit (number % 16)) (digits_form count (number / 16)) (digit_form (number % 16) (omega arith))

pub session_form : (number : ℕ) → IsSessionId (session_of number)
session_form number = let long = digits_length 16 number in record { least = omega arith; most = omega arith; each = digits_form 16 number }

-- ---- the number that a session spells

number_behind : (number : ℕ) (xs : List ℕ) (y : ℕ) → number_from 16 number (xs ++ y ∷ []) ≡ 16 * number_from 16 number xs + digit_value y
number_behind number [] y = refl
number_behind number (x ∷ xs) y = number_behind (16 * number + digit_value x) xs y

digit_back : (digit : ℕ) → digit < 16 → digit_value (hexadecimal_digit digit) ≡ digit
digit_back digit small = grind (arith, nat_tests)

digits_number : (count number : ℕ) → number < 16 ^ count → number_from 16 0 (last_digits count number) ≡ number
unfolding last_digits
digits_number zero number small = omega arith
digits_number (suc count) number small =
    number_behind 0 (last_digits count (number / 16)) (hexadecimal_digit (number % 16))
    ∙ let front = digits_number count (number / 16) (omega arith) in let last = digit_back (number % 16) (omega arith) in omega (arith, front, last)

pub session_number : (number : ℕ) → number < 2 ^ 63 → base16_number (session_of number) ≡ number
session_number number small = digits_number 16 number (omega arith)
