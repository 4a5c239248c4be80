-- Two ranges meet exactly where some bytes lie in both.
use Rattle.std.proofs.Common.{◌≡◌, ℕ, Bool, true, false, not, cond, List, [], ◌∷◌, ◌++◌, Option, None, Some, IsTrue, ◌↔◌, refl, sym, ap, ◌∙◌}
use Rattle.std.specs.Ordering.{is_lt, ordering_then}
use Rattle.std.proofs.lemmas.Bool.{and_parts, and_from, false≢true}
use Rattle.std.proofs.lemmas.Cmp.{nat_cmp_total, tied_itself}
use Rattle.row_keys.specs.RowOrder.{bytes_cmp, is_below, is_above, is_up_to, is_within, higher_low, lower_high, is_interval, have_common, ShareBytes}
use Rattle.row_keys.proofs.RowOrderLemmas.{is_below-itself, is_below-trans, is_below-from_most, is_below-to_most}

not_not : (b : Bool) → not b ≡ true → b ≡ false
not_not true is = absurd (false≢true is)
not_not false is = refl

from_not : (b : Bool) → b ≡ false → not b ≡ true
from_not true is = absurd (false≢true (sym is))
from_not false is = refl

-- a row above both lower bounds is above the greater one, and the other way round
higher_of : (t : Bool) (a b row : List ℕ) → is_below a row ≡ true → is_below b row ≡ true → is_below (cond t b a) row ≡ true
higher_of true a b row above_a above_b = above_b
higher_of false a b row above_a above_b = above_a

above_both : (a b : Option (List ℕ)) (row : List ℕ) → is_above a row ≡ true → is_above b row ≡ true → is_above (higher_low a b) row ≡ true
above_both None b row above_a above_b = above_b
above_both (Some a) None row above_a above_b = above_a
above_both (Some a) (Some b) row above_a above_b = higher_of (is_below a b) a b row above_a above_b

parts_of_higher : (t : Bool) (a b row : List ℕ) → is_below a b ≡ t → is_below (cond t b a) row ≡ true → (is_below a row ≡ true) × (is_below b row ≡ true)
parts_of_higher true a b row is above = (is_below-trans a b row is above, above)
parts_of_higher false a b row is above = (above, is_below-from_most b a row is above)

above_parts : (a b : Option (List ℕ)) (row : List ℕ) → is_above (higher_low a b) row ≡ true → (is_above a row ≡ true) × (is_above b row ≡ true)
above_parts None b row above = (refl, above)
above_parts (Some a) None row above = (above, refl)
above_parts (Some a) (Some b) row above = parts_of_higher (is_below a b) a b row refl above

-- and so for the upper bounds
lower_of : (t : Bool) (a b row : List ℕ) → not (is_below a row) ≡ true → not (is_below b row) ≡ true → not (is_below (cond t b a) row) ≡ true
lower_of true a b row upto_a upto_b = upto_b
lower_of false a b row upto_a upto_b = upto_a

up_to_both : (a b : Option (List ℕ)) (row : List ℕ) → is_up_to a row ≡ true → is_up_to b row ≡ true → is_up_to (lower_high a b) row ≡ true
up_to_both None b row upto_a upto_b = upto_b
up_to_both (Some a) None row upto_a upto_b = upto_a
up_to_both (Some a) (Some b) row upto_a upto_b = lower_of (is_below b a) a b row upto_a upto_b

-- nothing below a is above b, where a is at most b
stays_up_to : (a b row : List ℕ) → (is_below a row ≡ true → is_below b row ≡ true) → not (is_below b row) ≡ true → not (is_below a row) ≡ true
stays_up_to a b row below upto =
    elim (is_below a row) as (λ t. is_below a row ≡ t → not t ≡ true) [
      | true ↦ λ is. absurd (false≢true (sym (not_not (is_below b row) upto) ∙ below is))
      | false ↦ λ is. refl
    ] refl

parts_of_lower : (t : Bool) (a b row : List ℕ) → is_below b a ≡ t → not (is_below (cond t b a) row) ≡ true → (not (is_below a row) ≡ true) × (not (is_below b row) ≡ true)
parts_of_lower true a b row is upto = (stays_up_to a b row (λ above. is_below-trans b a row is above) upto, upto)
parts_of_lower false a b row is upto = (upto, stays_up_to b a row (λ above. is_below-from_most a b row is above) upto)

up_to_parts : (a b : Option (List ℕ)) (row : List ℕ) → is_up_to (lower_high a b) row ≡ true → (is_up_to a row ≡ true) × (is_up_to b row ≡ true)
up_to_parts None b row upto = (refl, upto)
up_to_parts (Some a) None row upto = (upto, refl)
up_to_parts (Some a) (Some b) row upto = parts_of_lower (is_below b a) a b row refl upto

-- a lower bound below a row is below each upper bound that the row is up to
interval_round : (low high : Option (List ℕ)) (row : List ℕ) → is_above low row ≡ true → is_up_to high row ≡ true → is_interval low high ≡ true
interval_round None high row above upto = refl
interval_round (Some low) None row above upto = refl
interval_round (Some low) (Some high) row above upto = is_below-to_most low row high above (not_not (is_below high row) upto)

-- a row is below itself with a byte behind it
is_below-longer : (a : List ℕ) (byte : ℕ) → is_below a (a ++ byte ∷ []) ≡ true
is_below-longer [] byte = refl
is_below-longer (c ∷ a) byte =
    ap (λ o. is_lt (ordering_then o (bytes_cmp a (a ++ byte ∷ [])))) (tied_itself nat_cmp_total c) ∙ is_below-longer a byte

-- some bytes lie in an interval
in_interval : (low high : Option (List ℕ)) → is_interval low high ≡ true → (row : List ℕ) × (is_above low row ≡ true) × (is_up_to high row ≡ true)
in_interval None None is = ([], refl, refl)
in_interval (Some low) None is = (low ++ 0 ∷ [], is_below-longer low 0, refl)
in_interval None (Some high) is = (high, refl, from_not (is_below high high) (is_below-itself high))
in_interval (Some low) (Some high) is = (high, is, from_not (is_below high high) (is_below-itself high))

shared : (prev end from to : Option (List ℕ)) → have_common prev end from to ≡ true → ShareBytes prev end from to
shared prev end from to is =
    let found = in_interval (higher_low prev from) (lower_high end to) is in
    let above = above_parts prev from found.0 found.1 in
    let upto = up_to_parts end to found.0 found.2 in
    (found.0, and_from (is_above prev found.0) (is_up_to end found.0) above.0 upto.0, and_from (is_above from found.0) (is_up_to to found.0) above.1 upto.1)

-- a row that lies in both ranges is in their common interval
pub common_of : (prev end from to : Option (List ℕ)) (row : List ℕ) → is_within prev end row ≡ true → is_within from to row ≡ true → have_common prev end from to ≡ true
common_of prev end from to row one other =
    let first = and_parts (is_above prev row) (is_up_to end row) one in
    let second = and_parts (is_above from row) (is_up_to to row) other in
    interval_round (higher_low prev from) (lower_high end to) row
    (above_both prev from row first.0 second.0) (up_to_both end to row first.1 second.1)

pub common_is_shared : (prev end from to : Option (List ℕ)) → IsTrue (have_common prev end from to) ↔ ShareBytes prev end from to
common_is_shared prev end from to =
    (shared prev end from to, λ share. common_of prev end from to share.0 share.1 share.2)
