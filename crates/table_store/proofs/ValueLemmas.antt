-- What the paths and values of nodes say.
use Rattle.std.proofs.Common.{◌≡◌, ◌≢◌, ℕ, ◌+◌, ◌*◌, ◌<◌, ◌≤◌, Bool, true, false, nat_lt, List, [], ◌∷◌, ◌++◌, length, Option, Some, None, Result, Ok, Err, IsTrue, refl, sym, ◌∙◌, ap, subst, arith}
use Rattle.std.specs.Prelude.{MatchBool, MatchOption, IfOk, OnSome, codes}
use Rattle.std.specs.Borrow.{Bor}
use Rattle.std.specs.Option.{option_and_then}
use Rattle.std.specs.List.{list_all}
use Rattle.std.proofs.lemmas.Bool.Decides.{nat_tests}
use Rattle.std.proofs.lemmas.Option.{same_Some}
use Rattle.std.proofs.lemmas.List.{append_cancel_right}
use Rattle.std.proofs.lemmas.Bool.{ltb-true, ltb-false}
use Rattle.row_keys.specs.Forms.{is_lower_or_digit, IsWordName}
use Rattle.table_store.specs.Numbers.{value_of, value_from, IsDrawn}
use Rattle.table_store.specs.Layout.{table_path, table_value}

-- ---- ids

lower_of : (byte digit : ℕ) → value_of byte ≡ Some digit → is_lower_or_digit byte ≡ true
lower_of byte digit is = grind (arith, nat_tests)

lower_next : (byte : ℕ) (more : List ℕ) (n number : ℕ) (o : Option ℕ) → value_of byte ≡ o → ((k : ℕ) → value_from k more ≡ Some n → IsTrue (list_all is_lower_or_digit more)) → option_and_then (λ digit. value_from (36 * number + digit) more) o ≡ Some n
    → IsTrue (list_all is_lower_or_digit (byte ∷ more))
lower_next byte more n number None value later is = cc
lower_next byte more n number (Some digit) value later is = grind (arith, nat_tests, lower_of byte digit value, later (36 * number + digit) is)

lower_from : (number : ℕ) (bytes : List ℕ) (n : ℕ) → value_from number bytes ≡ Some n → IsTrue (list_all is_lower_or_digit bytes)
lower_from number [] n is = refl
lower_from number (byte ∷ bytes) n is = lower_next byte bytes n number (value_of byte) refl (λ k found. lower_from k bytes n found) is

some_bytes : (id : List ℕ) (number : ℕ) → value_from 0 id ≡ Some number → 0 < number → 1 ≤ length id
some_bytes [] number is positive = absurd (omega (arith, same_Some _ _ is))
some_bytes (byte ∷ id) number is positive = omega arith

drawn_before : (next number : ℕ) (id : List ℕ) → value_from 0 id ≡ Some number → length id ≤ 13 → 0 < number → number < next → IsDrawn next id
drawn_before next number id is short positive below = record {
  form = record { least = some_bytes id number is positive; most = short; each = lower_from 0 id number is };
  number = number;
  is = is;
  positive = positive;
  below = below;
}

pub tells_drawn : (next number : ℕ) (id : List ℕ) → value_from 0 id ≡ Some number → length id ≤ 13 → 0 < number → MatchBool (nat_lt number next) (IsDrawn next id) (IsDrawn next id → ⊥)
tells_drawn next number id is short positive = at (nat_lt number next) refl
  where
    at : (b : Bool) → nat_lt number next ≡ b → MatchBool b (IsDrawn next id) (IsDrawn next id → ⊥)
    at true below = drawn_before next number id is short positive (ltb-true number next below)
    at false past = λ drawn. absurd (omega (arith, same_Some _ _ (sym drawn.is ∙ is), drawn.below, ltb-false number next past))

-- ---- names

pub table_path_injective : (one two : List ℕ) → table_path one ≡ table_path two → one ≡ two
table_path_injective one two is = cc

pub table_value_injective : (one two : List ℕ) → table_value one ≡ table_value two → one ≡ two
table_value_injective one two is = append_cancel_right one two (codes " -") (behind (one ++ codes " -") (two ++ codes " -") is)
  where
    behind : (a b : List ℕ) → codes "ONLINE " ++ a ≡ codes "ONLINE " ++ b → a ≡ b
    behind a b is = cc

pub named_is : (value rest : List ℕ) (r : Option (Bor (List ℕ))) → value ≡ codes "ONLINE " ++ rest → MatchOption r ((front : List ℕ) → rest ≢ front ++ codes " -") (λ x. rest ≡ x.now ++ codes " -")
    → MatchOption r ((name : List ℕ) → value ≡ table_value name → ⊥) (λ name. value ≡ table_value name.now)
named_is value rest None is none = λ name valued. none name (behind rest (name ++ codes " -") (sym is ∙ valued))
  where
    behind : (a b : List ℕ) → codes "ONLINE " ++ a ≡ codes "ONLINE " ++ b → a ≡ b
    behind a b is = cc
named_is value rest (Some x) is some = is ∙ ap (λ l. codes "ONLINE " ++ l) some

name_found : (value name : List ℕ) → value ≡ table_value name → (found : Option (List ℕ)) → MatchOption found (IsWordName name → ⊥) (λ spelled. spelled ≡ name) → OnSome found (IsWordName name)
    → MatchOption found ((other : List ℕ) → value ≡ table_value other → IsWordName other → ⊥) (λ spelled. (value ≡ table_value spelled) × IsWordName spelled)
name_found value name is None none form = λ other valued formed. none (subst IsWordName (table_value_injective other name (sym valued ∙ is)) formed)
name_found value name is (Some spelled) same form = (is ∙ ap table_value (sym same), subst IsWordName (sym same) form)

pub name_read : {E : Type 0} (value name : List ℕ) → value ≡ table_value name → (r : Result (Option (List ℕ)) E) → IfOk r (λ found. MatchOption found (IsWordName name → ⊥) (λ spelled. spelled ≡ name)) → IfOk r (λ found. OnSome found (IsWordName name))
    → IfOk r (λ found. MatchOption found ((other : List ℕ) → value ≡ table_value other → IsWordName other → ⊥) (λ spelled. (value ≡ table_value spelled) × IsWordName spelled))
name_read value name is (Ok found) spelled form = name_found value name is found spelled form
name_read value name is (Err e) spelled form = tt
