-- The texts of drawn numbers, their form, and the numbers that they spell.
use Rattle.std.proofs.Common.{◌≡◌, ◌⊎◌, inl, inr, ⊎_elim, ℕ, zero, suc, ◌+◌, ◌-◌, ◌*◌, ◌/◌, ◌%◌, ◌^◌, ◌==◌, ◌<◌, ◌≤◌, true, false, cond, List, [], ◌∷◌, ◌++◌, reverse, refl, sym, ◌∙◌, ap, subst, arith, append_assoc, length, length-append, IsTrue}
use Rattle.std.specs.Prelude.{◌&&◌}
use Rattle.std.specs.List.{list_all}
use Rattle.std.proofs.lemmas.List.{append-nil, reverse-append}
use Rattle.std.proofs.lemmas.Bool.{cases_lt, and_parts, and_from}
use Rattle.std.proofs.lemmas.Bool.Decides.{nat_tests}
use Rattle.metadata_schema.specs.Paths.{is_base36, IsDrawnText}
use Rattle.store_layout.specs.Numbers.{number_from, digit_value, base36_number}
use Rattle.new_files.specs.Names.{base36_digit, digits_between, name_text}

-- ---- digits one by one

neither : (least number : ℕ) → least ≡ 0 → number ≡ 0 → (least == 0 && number == 0) ≡ true
neither least number none nothing = grind (arith, nat_tests)

either : (least number : ℕ) → 0 < least + number → (least == 0 && number == 0) ≡ false
either least number some = grind (arith, nat_tests)

digits_none : (most least number : ℕ) → (least ≡ 0) × (number ≡ 0) → digits_between (suc most) least number ≡ []
unfolding digits_between
digits_none most least number none = ap (λ b. cond b [] (digits_between most (least - 1) (number / 36) ++ base36_digit (number % 36) ∷ [])) (neither least number none.0 none.1)

digits_some : (most least number : ℕ) → 0 < least + number → digits_between (suc most) least number ≡ digits_between most (least - 1) (number / 36) ++ base36_digit (number % 36) ∷ []
unfolding digits_between
digits_some most least number some = ap (λ b. cond b [] (digits_between most (least - 1) (number / 36) ++ base36_digit (number % 36) ∷ [])) (either least number some)

-- none are wanted, or some are
wanted : (least number : ℕ) → (0 < least + number) ⊎ ((least ≡ 0) × (number ≡ 0))
wanted least number = ⊎_elim (λ some. inl some) (λ none. inr (omega (arith, none), omega (arith, none))) (cases_lt 0 (least + number))

-- ---- how many

at_least : (most least number : ℕ) → least ≤ most → least ≤ length (digits_between most least number)
at_least zero least number within = omega arith
at_least (suc most) least number within = ⊎_elim
    (λ some.
    let is = ap (length {A = ℕ}) (digits_some most least number some) in
    let joined = length-append (digits_between most (least - 1) (number / 36)) (base36_digit (number % 36) ∷ []) in
    let front = at_least most (least - 1) (number / 36) (omega arith) in
    omega (arith, is, joined, front))
    (λ none. let no_least = none.0 in omega (arith, no_least))
    (wanted least number)

at_most : (most least number : ℕ) → length (digits_between most least number) ≤ most
unfolding digits_between
at_most zero least number = omega arith
at_most (suc most) least number = ⊎_elim
    (λ some.
    let is = ap (length {A = ℕ}) (digits_some most least number some) in
    let joined = length-append (digits_between most (least - 1) (number / 36)) (base36_digit (number % 36) ∷ []) in
    let front = at_most most (least - 1) (number / 36) in
    omega (arith, is, joined, front))
    (λ none. let is = ap (length {A = ℕ}) (digits_none most least number none) in omega (arith, is))
    (wanted least number)

-- ---- which

all_behind : (xs : List ℕ) (y : ℕ) → IsTrue (list_all is_base36 xs) → is_base36 y ≡ true → IsTrue (list_all is_base36 (xs ++ y ∷ []))
all_behind [] y all is = and_from (is_base36 y) true is refl
all_behind (x ∷ xs) y all is =
    let parts = and_parts (is_base36 x) (list_all is_base36 xs) all in
    and_from (is_base36 x) (list_all is_base36 (xs ++ y ∷ [])) parts.0 (all_behind xs y parts.1 is)

digit_form : (digit : ℕ) → digit < 36 → is_base36 (base36_digit digit) ≡ true
digit_form digit small = grind (arith, nat_tests)

digits_form : (most least number : ℕ) → IsTrue (list_all is_base36 (digits_between most least number))
unfolding digits_between
digits_form zero least number = refl
digits_form (suc most) least number = ⊎_elim
    (λ some.
    subst (λ l. IsTrue (list_all is_base36 l)) (sym (digits_some most least number some))
    (all_behind (digits_between most (least - 1) (number / 36)) (base36_digit (number % 36)) (digits_form most (least - 1) (number / 36)) (digit_form (number % 36) (omega arith))))
    (λ none. subst (λ l. IsTrue (list_all is_base36 l)) (sym (digits_none most least number none)) refl)
    (wanted least number)

-- ---- the number that they spell

number_behind : (number : ℕ) (xs : List ℕ) (y : ℕ) → number_from 36 number (xs ++ y ∷ []) ≡ 36 * number_from 36 number xs + digit_value y
number_behind number [] y = refl
number_behind number (x ∷ xs) y = number_behind (36 * number + digit_value x) xs y

digit_back : (digit : ℕ) → digit < 36 → digit_value (base36_digit digit) ≡ digit
digit_back digit small = grind (arith, nat_tests)

digits_number : (most least number : ℕ) → number < 36 ^ most → number_from 36 0 (digits_between most least number) ≡ number
unfolding digits_between
digits_number zero least number small = omega arith
digits_number (suc most) least number small = ⊎_elim
    (λ some.
    ap (number_from 36 0) (digits_some most least number some) ∙ number_behind 0 (digits_between most (least - 1) (number / 36)) (base36_digit (number % 36))
    ∙ let front = digits_number most (least - 1) (number / 36) (omega arith) in let last = digit_back (number % 36) (omega arith) in omega (arith, front, last))
    (λ none. ap (number_from 36 0) (digits_none most least number none) ∙ sym none.1)
    (wanted least number)

pub text_number : (number : ℕ) → number < 2 ^ 63 → base36_number (name_text number) ≡ number
text_number number small = digits_number 13 7 number (omega arith)

-- ---- no zero in front but those that are asked for

none_left : (most least number : ℕ) → number < 36 ^ most → digits_between most least number ≡ [] → number ≡ 0
none_left most least number small is = sym (digits_number most least number small) ∙ ap (number_from 36 0) is

zero_digit : (digit : ℕ) → digit < 36 → base36_digit digit ≡ 48 → digit ≡ 0
zero_digit digit small is = sym (digit_back digit small) ∙ ap digit_value is

first_digit : (least number : ℕ) (front rest : List ℕ) → 0 < least + number → (front ≡ [] → number / 36 ≡ 0) → ((more : List ℕ) → front ≡ 48 ∷ more → length more < least - 1)
    → front ++ base36_digit (number % 36) ∷ [] ≡ 48 ∷ rest → length rest < least
first_digit least number [] rest some empty before is =
    let first : base36_digit (number % 36) ≡ 48 = cc in
    let last : [] ≡ rest = cc in
    let last_zero = zero_digit (number % 36) (omega arith) first in
    let front = empty refl in
    let short = ap (length {A = ℕ}) last in
    omega (arith, last_zero, front, short)
first_digit least number (x ∷ xs) rest some empty before is =
    let first : x ≡ 48 = cc in
    let others : xs ++ base36_digit (number % 36) ∷ [] ≡ rest = cc in
    let front = before xs (ap (λ y. y ∷ xs) first) in
    let long = ap (length {A = ℕ}) others in
    let joined = length-append xs (base36_digit (number % 36) ∷ []) in
    omega (arith, front, long, joined)

no_zero : (most least number : ℕ) (rest : List ℕ) → number < 36 ^ most → digits_between most least number ≡ 48 ∷ rest → length rest < least
unfolding digits_between
no_zero zero least number rest small is = absurd (let wrong : [] ≡ 48 ∷ rest = is in cc)
no_zero (suc most) least number rest small is = ⊎_elim
    (λ some.
    first_digit least number (digits_between most (least - 1) (number / 36)) rest some (none_left most (least - 1) (number / 36) (omega arith))
    (λ more at. no_zero most (least - 1) (number / 36) more (omega arith) at) (sym (digits_some most least number some) ∙ is))
    (λ none. absurd (let wrong : [] ≡ 48 ∷ rest = sym (digits_none most least number none) ∙ is in cc))
    (wanted least number)

pub text_form : (number : ℕ) → number < 2 ^ 63 → IsDrawnText (name_text number)
text_form number small = record {
  form = record { least = at_least 13 7 number (omega arith); most = at_most 13 7 number; each = digits_form 13 7 number };
  plain = λ rest is. no_zero 13 7 number rest (omega arith) is;
}

-- ---- written from the last on

-- what is left to be written, before what was written
abbrev pub written : ℕ → List ℕ → List ℕ
written rest digits = digits_between (13 - length digits) (7 - length digits) rest ++ reverse digits

pub text_begins : (number : ℕ) (none : List ℕ) → none ≡ [] → written number none ≡ name_text number
text_begins number none is = ap (written number) is ∙ append-nil _

-- as long as more is wanted there is room for it
pub has_room : (rest count : ℕ) → rest < 36 ^ (13 - count) → 0 < (7 - count) + rest → count < 13
has_room rest count room more = ⊎_elim
    (λ within. within)
    (λ past.
    let none : 13 - count ≡ 0 = omega arith in
    let small : rest < 36 ^ 0 = subst (λ k. rest < 36 ^ k) none room in
    absurd (omega (arith, small, past, more)))
    (cases_lt count 13)

one_more : (most least rest digit : ℕ) (old new : List ℕ) → 0 < least + rest → new ≡ old ++ digit ∷ [] → digit ≡ base36_digit (rest % 36) → digits_between most (least - 1) (rest / 36) ++ reverse new ≡ digits_between (suc most) least rest ++ reverse old
one_more most least rest digit old new some is digit_is =
    ap (λ l. digits_between most (least - 1) (rest / 36) ++ reverse l) is ∙ ap (λ l. digits_between most (least - 1) (rest / 36) ++ l) (reverse-append old (digit ∷ []))
    ∙ sym (append_assoc (digits_between most (least - 1) (rest / 36)) (digit ∷ []) (reverse old)) ∙ ap (λ d. (digits_between most (least - 1) (rest / 36) ++ d ∷ []) ++ reverse old) digit_is
    ∙ ap (λ l. l ++ reverse old) (sym (digits_some most least rest some))

pub text_goes_on : (rest digit : ℕ) (old new : List ℕ) → rest < 36 ^ (13 - length old) → 0 < (7 - length old) + rest → new ≡ old ++ digit ∷ [] → digit ≡ base36_digit (rest % 36) → written (rest / 36) new ≡ written rest old
text_goes_on rest digit old new room some is digit_is =
    let within = has_room rest (length old) room some in
    let long = ap (length {A = ℕ}) is in
    let joined = length-append old (digit ∷ []) in
    let most : 13 - length new ≡ 13 - length old - 1 = omega (arith, long, joined) in
    let least : 7 - length new ≡ 7 - length old - 1 = omega (arith, long, joined) in
    let left : suc (13 - length old - 1) ≡ 13 - length old = omega (arith, within) in
    ap (λ m. digits_between m (7 - length new) (rest / 36) ++ reverse new) most
    ∙ ap (λ l. digits_between (13 - length old - 1) l (rest / 36) ++ reverse new) least
    ∙ one_more (13 - length old - 1) (7 - length old) rest digit old new some is digit_is
    ∙ ap (λ m. digits_between m (7 - length old) rest ++ reverse old) left

pub room_goes_on : (rest digit : ℕ) (old new : List ℕ) → rest < 36 ^ (13 - length old) → 0 < (7 - length old) + rest → new ≡ old ++ digit ∷ [] → rest / 36 < 36 ^ (13 - length new)
room_goes_on rest digit old new room some is =
    let within = has_room rest (length old) room some in
    let long = ap (length {A = ℕ}) is in
    let joined = length-append old (digit ∷ []) in
    let left : suc (13 - length new) ≡ 13 - length old = omega (arith, long, joined, within) in
    less (13 - length new) (subst (λ k. rest < 36 ^ k) (sym left) room)
  where
    less : (k : ℕ) → rest < 36 ^ suc k → rest / 36 < 36 ^ k
    less k small = omega arith

digits_end : (most least number : ℕ) → least ≡ 0 → number ≡ 0 → digits_between most least number ≡ []
unfolding digits_between
digits_end zero least number none nothing = refl
digits_end (suc most) least number none nothing = digits_none most least number (none, nothing)

pub text_ends : (rest number : ℕ) (digits : List ℕ) → rest ≡ 0 → 7 ≤ length digits → written rest digits ≡ name_text number → reverse digits ≡ name_text number
text_ends rest number digits nothing enough is = ap (λ l. l ++ reverse digits) (sym (digits_end (13 - length digits) (7 - length digits) rest (omega arith) nothing)) ∙ is
