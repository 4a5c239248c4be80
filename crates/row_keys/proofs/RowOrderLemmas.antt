-- What is known of the order of rows.
use Rattle.std.proofs.Common.{◌≡◌, ℕ, true, false, not, List, Ordering, Less, Equal, Greater, refl, sym, ap, ◌∙◌}
use Rattle.std.specs.Ordering.{is_lt, is_le, ordering_reverse}
use Rattle.std.proofs.lemmas.Bool.{false≢true}
use Rattle.std.proofs.lemmas.Cmp.{nat_list_cmp_total, tied_itself, alike_right}
use Rattle.row_keys.specs.RowOrder.{bytes_cmp, is_below}

is_le-reverse : (o : Ordering) → is_le (ordering_reverse o) ≡ not (is_lt o)
is_le-reverse Less = refl
is_le-reverse Equal = refl
is_le-reverse Greater = refl

-- at most is not above
pub is_le-bytes_cmp : (a b : List ℕ) → is_le (bytes_cmp a b) ≡ not (is_below b a)
is_le-bytes_cmp a b = ap is_le (nat_list_cmp_total.antisymm a b) ∙ is_le-reverse (bytes_cmp b a)

less_is : (o : Ordering) → is_lt o ≡ true → o ≡ Less
less_is Less is = refl
less_is Equal is = absurd (false≢true is)
less_is Greater is = absurd (false≢true is)

-- nothing is below itself
pub is_below-itself : (a : List ℕ) → is_below a a ≡ false
is_below-itself a = ap is_lt (tied_itself nat_list_cmp_total a)

pub is_below-trans : (a b c : List ℕ) → is_below a b ≡ true → is_below b c ≡ true → is_below a c ≡ true
is_below-trans a b c ab bc =
    ap is_lt (nat_list_cmp_total.trans a b c (less_is (bytes_cmp a b) ab) (less_is (bytes_cmp b c) bc))

-- at most b, and b below c
pub is_below-from_most : (a b c : List ℕ) → is_below b a ≡ false → is_below b c ≡ true → is_below a c ≡ true
is_below-from_most a b c most below =
    elim (bytes_cmp b a) as (λ o. bytes_cmp b a ≡ o → is_below a c ≡ true) [
      | Less ↦ λ is. absurd (false≢true (sym most ∙ ap is_lt is))
      | Equal ↦ λ is. sym (ap is_lt (nat_list_cmp_total.congr b a c is)) ∙ below
      | Greater ↦ λ is. is_below-trans a b c (ap is_lt (nat_list_cmp_total.antisymm a b ∙ ap ordering_reverse is)) below
    ] refl

-- below b, and b at most c
pub is_below-to_most : (a b c : List ℕ) → is_below a b ≡ true → is_below c b ≡ false → is_below a c ≡ true
is_below-to_most a b c below most =
    elim (bytes_cmp c b) as (λ o. bytes_cmp c b ≡ o → is_below a c ≡ true) [
      | Less ↦ λ is. absurd (false≢true (sym most ∙ ap is_lt is))
      | Equal ↦ λ is. ap is_lt (alike_right nat_list_cmp_total c b a is) ∙ below
      | Greater ↦ λ is. is_below-trans a b c below (ap is_lt (nat_list_cmp_total.antisymm b c ∙ ap ordering_reverse is))
    ] refl
