-- Numbers with zeros in front, and what values say.
use Rattle.std.proofs.Common.{◌≡◌, ℕ, ◌+◌, ◌-◌, ◌*◌, ◌<◌, ◌^◌, zero, suc, Bool, true, false, List, [], ◌∷◌, ◌++◌, length, take, drop, nat_eq, Option, Some, None, Result, Ok, Err, refl, sym, ◌∙◌, ap, subst, arith, rules}
use Rattle.std.specs.Prelude.{MatchResult, MatchOption, codes}
use Rattle.std.specs.Borrow.{Bor}
use Rattle.std.specs.Result.{result_ok}
use Rattle.std.specs.Str.{IsUtf8, all_ascii_digits}
use Rattle.std.specs.Str.Parse.{ParsesUnsigned}
use Rattle.std.specs.Fmt.{decimal}
use Rattle.std.proofs.lemmas.Bool.{false≢true}
use Rattle.std.proofs.lemmas.Option.{same_Some}
use Rattle.std.specs.Bool.{then_some}
use Rattle.std.specs.Cmp.Lexicographic.{pointwise}
use Rattle.std.proofs.lemmas.List.{length-append, take_at, drop_at}
use Rattle.std.proofs.lemmas.Slice.Eq.{bytes_eq-Decides}
use Rattle.std.proofs.lemmas.Fmt.{IsAscii-decimal, IsAscii-from_digits, parse-decimal, digits_decimal, digits_value-decimal, decimal_nonempty}
use Rattle.std.proofs.lemmas.Str.{IsUtf8-from_ascii}
use Rattle.std.proofs.lemmas.Str.Parse.{IsNumeralModel, numerals_by_fold, parse_gives}
use Rattle.table_locks.specs.Entries.{padded}

abbrev read_on : ℕ → List ℕ → ℕ
read_on n [] = n
read_on n (c ∷ cs) = read_on (10 * n + (c - 48)) cs

own : IsNumeralModel (λ ds. all_ascii_digits ds ≡ true) (read_on 0)
own = numerals_by_fold _ (search rules) read_on (search rules)

abbrev AreZeros : List ℕ → Type 0
AreZeros [] = Unit {0}
AreZeros (z ∷ zs) = (z ≡ 48) × AreZeros zs

zeros_left : (k : ℕ) (zs : List ℕ) → AreZeros zs → AreZeros (drop k zs)
zeros_left zero zs are = are
zeros_left (suc k) [] are = are
zeros_left (suc k) (z ∷ zs) are = zeros_left k zs are.1

ten_zeros : (k : ℕ) → AreZeros (drop k (codes "0000000000"))
ten_zeros k = zeros_left k (codes "0000000000") (refl, (refl, (refl, (refl, (refl, (refl, (refl, (refl, (refl, (refl, tt))))))))))

with_zeros : (zs ds : List ℕ) → AreZeros zs → all_ascii_digits ds ≡ true → all_ascii_digits (zs ++ ds) ≡ true
with_zeros [] ds are digits = digits
with_zeros (z ∷ zs) ds are digits = subst (λ c. all_ascii_digits (c ∷ (zs ++ ds)) ≡ true) (sym are.0) (with_zeros zs ds are.1 digits)

value_with_zeros : (zs ds : List ℕ) → AreZeros zs → read_on 0 (zs ++ ds) ≡ read_on 0 ds
value_with_zeros [] ds are = refl
value_with_zeros (z ∷ zs) ds are = ap (λ c. read_on 0 (c ∷ (zs ++ ds))) are.0 ∙ value_with_zeros zs ds are.1

padded_digits : (number : ℕ) → number < 2 ^ 64 → all_ascii_digits (padded number) ≡ true
padded_digits number small = with_zeros (drop (length (decimal number)) (codes "0000000000")) (decimal number) (ten_zeros (length (decimal number))) (digits_decimal own number small)

padded_value : (number : ℕ) → number < 2 ^ 64 → read_on 0 (padded number) ≡ number
padded_value number small = value_with_zeros (drop (length (decimal number)) (codes "0000000000")) (decimal number) (ten_zeros (length (decimal number))) ∙ digits_value-decimal own number small

some_digits : (zs ds : List ℕ) → 0 < length ds → 0 < length (zs ++ ds)
some_digits zs ds some = omega (arith, length-append zs ds, some)

pub utf8_decimal : (bytes : List ℕ) (number : ℕ) → number < 2 ^ 64 → bytes ≡ decimal number → IsUtf8 bytes
utf8_decimal bytes number small is = subst IsUtf8 (sym is) (IsUtf8-from_ascii (decimal number) (IsAscii-decimal number small))

pub utf8_padded : (bytes : List ℕ) (number : ℕ) → number < 2 ^ 64 → bytes ≡ padded number → IsUtf8 bytes
utf8_padded bytes number small is = subst IsUtf8 (sym is) (IsUtf8-from_ascii (padded number) (IsAscii-from_digits (padded number) (IsNumeralModel.to own (padded number) (padded_digits number small))))

pub no_text : {E : Type 0} (P : E → Type 0) (bytes : List ℕ) (r : Result (Bor (List ℕ)) E) → MatchResult r (λ s. (s.now ≡ bytes) × IsUtf8 bytes) (λ e. (IsUtf8 bytes → ⊥) × P e) → result_ok r ≡ None → IsUtf8 bytes → ⊥
no_text P bytes (Ok s) cases none text = cc
no_text P bytes (Err e) cases none text = cases.0 text

pub text_is : {E : Type 0} (P : E → Type 0) (bytes : List ℕ) (r : Result (Bor (List ℕ)) E) (text : Bor (List ℕ)) → MatchResult r (λ s. (s.now ≡ bytes) × IsUtf8 bytes) (λ e. (IsUtf8 bytes → ⊥) × P e) → result_ok r ≡ Some text → text.now ≡ bytes
text_is P bytes (Ok s) text cases some = ap (λ (b : Bor (List ℕ)). b.now) (sym (same_Some _ _ some)) ∙ cases.0
text_is P bytes (Err e) text cases some = cc

pub parsed_plain : {E : Type 0} (bytes : List ℕ) (r : Result ℕ E) (number : ℕ) → ParsesUnsigned 64 10 bytes r → number < 2 ^ 64 → bytes ≡ decimal number → result_ok r ≡ Some number
parsed_plain bytes r number parses small is = ap result_ok (parse-decimal 64 number bytes r small small is parses)

gives_padded : {E : Type 0} (r : Result ℕ E) (number : ℕ) → ParsesUnsigned 64 10 (padded number) r → number < 2 ^ 64 → r ≡ Ok number
gives_padded r number parses small =
    let value = padded_value number small in
    parse_gives own 64 (padded number) r parses (padded_digits number small) (some_digits (drop (length (decimal number)) (codes "0000000000")) (decimal number) (decimal_nonempty number small)) (subst (λ n. n < 2 ^ 64) (sym value) small) ∙ ap Ok value

pub parsed_padded : {E : Type 0} (bytes : List ℕ) (r : Result ℕ E) (number : ℕ) → ParsesUnsigned 64 10 bytes r → number < 2 ^ 64 → bytes ≡ padded number → result_ok r ≡ Some number
parsed_padded bytes r number parses small is = ap result_ok (gives_padded r number (subst (λ b. ParsesUnsigned 64 10 b r) is parses) small)

-- ---- paths

pub not_behind : (front path rest : List ℕ) → pointwise nat_eq (take (length front) path) front ≡ false → path ≡ front ++ rest → ⊥
not_behind front path rest other is = false≢true (sym other ∙ (bytes_eq-Decides (take (length front) path) front).1 (ap (λ p. take (length front) p) is ∙ take_at front rest (length front) refl))

behind : (front path digits rest : List ℕ) → digits ≡ drop (length front) path → path ≡ front ++ rest → digits ≡ rest
behind front path digits rest from is = from ∙ ap (λ p. drop (length front) p) is ∙ drop_at front rest (length front) refl

pub number_found : (front path digits spelled : List ℕ) (number : ℕ) (same : Bool) → digits ≡ drop (length front) path → ((n : ℕ) → n < 2 ^ 64 → digits ≡ padded n → Some number ≡ Some n) → spelled ≡ front ++ padded number → same ≡ pointwise nat_eq spelled path
    → MatchOption (then_some same number) ((n : ℕ) → n < 2 ^ 64 → path ≡ front ++ padded n → ⊥) (λ n. path ≡ front ++ padded n)
number_found front path digits spelled number true from reads is same = sym ((bytes_eq-Decides spelled path).0 (sym same)) ∙ is
number_found front path digits spelled number false from reads is same = λ n small other.
    let n_is : number ≡ n = same_Some _ _ (reads n small (behind front path digits (padded n) from other)) in
    false≢true (same ∙ (bytes_eq-Decides spelled path).1 (is ∙ ap (λ k. front ++ padded k) n_is ∙ sym other))
