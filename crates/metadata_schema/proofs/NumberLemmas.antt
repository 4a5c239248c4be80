-- What numbers in values say.
use Rattle.std.proofs.Common.{◌≡◌, ℕ, ◌<◌, ◌≤◌, ◌^◌, List, ◌++◌, Option, Some, None, Result, Ok, Err, IsTrue, sym, ◌∙◌, ap, subst, arith}
use Rattle.std.specs.Prelude.{MatchResult, IfSome}
use Rattle.std.specs.Borrow.{Bor}
use Rattle.std.specs.Result.{result_ok}
use Rattle.std.specs.Str.{IsUtf8}
use Rattle.std.specs.Str.Parse.{ParsesUnsigned}
use Rattle.std.specs.Fmt.{decimal}
use Rattle.std.proofs.lemmas.Option.{same_Some}
use Rattle.std.proofs.lemmas.List.{append-nil}
use Rattle.std.proofs.lemmas.Fmt.{IsAscii-decimal, parse-decimal, decimal_injective}
use Rattle.std.proofs.lemmas.Str.{IsUtf8-from_ascii}
use Rattle.metadata_schema.specs.Bytes.{is_free, IsParted}
use Rattle.metadata_schema.specs.Values.{time_part, IsNumberText, IsTimeText, IsFileValue, IsEntriesText}
use Rattle.metadata_schema.proofs.LawsLemmas.{parted_once}
use Rattle.metadata_schema.proofs.SameColumns.{decimal_free}
use Rattle.metadata_schema.proofs.PathLemmas.{not_free}

IsUtf8-decimal : (bytes : List ℕ) (number : ℕ) → number < 2 ^ 64 → bytes ≡ decimal number → IsUtf8 bytes
IsUtf8-decimal bytes number small is = subst IsUtf8 (sym is) (IsUtf8-from_ascii (decimal number) (IsAscii-decimal number small))

pub not_decimal : {E : Type 0} (P : E → Type 0) (bytes : List ℕ) (r : Result (Bor (List ℕ)) E) (number : ℕ) → MatchResult r (λ s. (s.now ≡ bytes) × IsUtf8 bytes) (λ e. (IsUtf8 bytes → ⊥) × P e) → result_ok r ≡ None
    → number < 2 ^ 64 → bytes ≡ decimal number → ⊥
not_decimal P bytes (Ok s) number cases none small is = cc
not_decimal P bytes (Err e) number cases none small is = cases.0 (IsUtf8-decimal bytes number small is)

pub text_is : {E : Type 0} (P : E → Type 0) (bytes : List ℕ) (r : Result (Bor (List ℕ)) E) (text : Bor (List ℕ)) → MatchResult r (λ s. (s.now ≡ bytes) × IsUtf8 bytes) (λ e. (IsUtf8 bytes → ⊥) × P e) → result_ok r ≡ Some text → text.now ≡ bytes
text_is P bytes (Ok s) text cases some = ap (λ (b : Bor (List ℕ)). b.now) (sym (same_Some _ _ some)) ∙ cases.0
text_is P bytes (Err e) text cases some = cc

pub parsed_is : {E : Type 0} (bytes : List ℕ) (r : Result ℕ E) (number : ℕ) → ParsesUnsigned 64 10 bytes r → number < 2 ^ 64 → bytes ≡ decimal number → result_ok r ≡ Some number
parsed_is bytes r number parses small is = ap result_ok (parse-decimal 64 number bytes r (omega arith) (omega arith) is parses)

-- a number of 2^63 or more is no time
pub too_late : (text : List ℕ) (number : ℕ) → number < 2 ^ 64 → 2 ^ 63 ≤ number → text ≡ decimal number → IsTimeText text → ⊥
too_late text number small late is time =
    let alike : number ≡ time.time = decimal_injective number time.time small (omega (arith, time.small)) (sym is ∙ time.is) in
    omega (arith, alike, time.small, late)

-- ---- parts by a comma

no_comma : (front back text : List ℕ) (n : ℕ) → n < 2 ^ 64 → IsParted 44 front back text → text ≡ decimal n → ⊥
no_comma front back text n small parted is = not_free 44 front back (subst (λ (l : List ℕ). IsTrue (is_free 44 l)) (sym is ∙ parted.is) (decimal_free n small))

-- what stands before the first comma is the number of entries, and what stands behind it a time
pub entries_parted : (front back text : List ℕ) → IsParted 44 front back text → IsEntriesText text → IsNumberText front × IsTimeText back
entries_parted front back text parted is = at is.time is.is.small_time is.is.is
  where
    at : (time : Option ℕ) → IfSome time (λ t. t < 2 ^ 63) → text ≡ decimal is.entries ++ time_part time → IsNumberText front × IsTimeText back
    at None small spelled = absurd (no_comma front back text is.entries is.is.few_entries parted (spelled ∙ append-nil (decimal is.entries)))
    at (Some t) small spelled =
        let cut = parted_once 44 front (decimal is.entries) back (decimal t) parted.free (decimal_free is.entries is.is.few_entries) (sym parted.is ∙ spelled) in
        (record { number = is.entries; small = is.is.few_entries; is = cut.0 }, record { time = t; small = small; is = cut.1 })

-- what stands before the first comma is the size
pub facts_parted : (front back value : List ℕ) → IsParted 44 front back value → IsFileValue value → IsNumberText front × IsEntriesText back
facts_parted front back value parted is =
    let cut = parted_once 44 front (decimal is.size) back (decimal is.entries ++ time_part is.time) parted.free (decimal_free is.size is.facts.small_size) (sym parted.is ∙ is.is) in (
      record { number = is.size; small = is.facts.small_size; is = cut.0 },
      record { entries = is.entries; time = is.time; is = record { few_entries = is.facts.few_entries; small_time = is.facts.small_time; is = cut.1 } },
    )
