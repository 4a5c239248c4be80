-- The order of spots, and the spots between two rows.
use Rattle.std.proofs.Common.{◌≡◌, ℕ, zero, suc, ◌==◌, nat_lt, Bool, true, false, cond, not, ◌&&◌, arith, List, [], ◌∷◌, ◌++◌, Option, Some, None, refl, sym, ◌∙◌, ap}
use Rattle.std.specs.Ordering.{is_eq, is_le, is_lt, is_gt, nat_cmp, ordering_then}
use Rattle.std.specs.declared.cmp.Ordering.{Ordering}
use Rattle.std.specs.declared.cmp.Ordering.TheVariants.{Less, Equal, Greater}
use Rattle.std.specs.Cmp.{IsTotalOrder}
use Rattle.std.specs.BTreeMap.Range.{IsLeBy, IsLtBy, range_contains, is_from_start, is_past_end}
use Rattle.std.specs.Range.Bound.{IsForward}
use Rattle.std.proofs.lemmas.Bool.{ltb-false}
use Rattle.std.proofs.lemmas.Cmp.{nat_list_cmp_total, on_total, then_total}
use Rattle.row_keys.specs.declared.key.Key.{Key}
use Rattle.row_keys.specs.RowOrder.{bytes_cmp, is_below, is_above, is_up_to, is_within, is_interval}
use Rattle.row_keys.proofs.RowOrderLemmas.{is_below-to_most}
use Rattle.cell_merge.proofs.KeyLemmas.{same_key-true}
use Rattle.tablet_mem.specs.declared.spot.Spot.{Spot}
use Rattle.tablet_mem.specs.Index.{spot_of, spot_cmp, past_row, start_of, end_of}

pub spot_total : IsTotalOrder spot_cmp
spot_total = then_total (on_total (λ (s : Spot). s.row) nat_list_cmp_total) (then_total (on_total (λ (s : Spot). s.family) nat_list_cmp_total) (on_total (λ (s : Spot). s.qualifier) nat_list_cmp_total))

-- the key of a spot
abbrev pub key_of : Spot → Key
key_of s = record { row = s.row; family = s.family; qualifier = s.qualifier }

pub spot_equal : (a b : Spot) → is_eq (spot_cmp a b) ≡ true → a ≡ b
spot_equal a b e = ap spot_of (same_key-true (key_of a) (key_of b) e)

nothing_first : (x : List ℕ) → is_le (bytes_cmp [] x) ≡ true
nothing_first [] = refl
nothing_first (b ∷ x) = refl

zero_first : (b : ℕ) (x : List ℕ) → is_le (ordering_then (nat_cmp 0 b) (bytes_cmp [] x)) ≡ true
zero_first zero x = nothing_first x
zero_first (suc b) x = by (nat_lt 0 (suc b)) refl
  where
    by : (t : Bool) → nat_lt 0 (suc b) ≡ t → is_le (ordering_then (cond t Less (cond (0 == suc b) Equal Greater)) (bytes_cmp [] x)) ≡ true
    by true e = refl
    by false e = absurd (let le = ltb-false _ _ e in omega arith)

-- a row and a zero byte stand at or before another row exactly where the first is below it
past_le : (r x : List ℕ) → is_le (bytes_cmp (r ++ 0 ∷ []) x) ≡ is_below r x
past_le [] [] = refl
past_le [] (b ∷ x) = zero_first b x
past_le (a ∷ r) [] = refl
past_le (a ∷ r) (b ∷ x) = by (nat_cmp a b) (past_le r x)
  where
    by : (o : Ordering) → is_le (bytes_cmp (r ++ 0 ∷ []) x) ≡ is_below r x → is_le (ordering_then o (bytes_cmp (r ++ 0 ∷ []) x)) ≡ is_lt (ordering_then o (bytes_cmp r x))
    by Less h = refl
    by Equal h = h
    by Greater h = refl

both_le : (o p : Ordering) → is_le o ≡ true → is_le p ≡ true → is_le (ordering_then o p) ≡ true
both_le Less p h g = refl
both_le Equal p h g = g
both_le Greater p h g = cc

first_decides : (o p : Ordering) → is_le p ≡ true → is_le (ordering_then o p) ≡ is_le o
first_decides Less p h = refl
first_decides Equal p h = h
first_decides Greater p h = refl

pub past_spot : (r : List ℕ) (s : Spot) → is_le (spot_cmp (past_row r) s) ≡ is_below r s.row
past_spot r s =
    first_decides (bytes_cmp (r ++ 0 ∷ []) s.row) (ordering_then (bytes_cmp [] s.family) (bytes_cmp [] s.qualifier)) (both_le (bytes_cmp [] s.family) (bytes_cmp [] s.qualifier) (nothing_first s.family) (nothing_first s.qualifier))
    ∙ past_le r s.row

-- the spots between two bounds are those of the rows within
pub range_is : (low high : Option (List ℕ)) (s : Spot) → range_contains spot_cmp (start_of low) (end_of high) s ≡ is_within low high s.row
range_is low high s = λ i. from low i && up_to high i
  where
    from : (low : Option (List ℕ)) → is_from_start spot_cmp (start_of low) s ≡ is_above low s.row
    from None = refl
    from (Some r) = past_spot r s

    up_to : (high : Option (List ℕ)) → not (is_past_end spot_cmp (end_of high) s) ≡ is_up_to high s.row
    up_to None = refl
    up_to (Some r) = ap not (past_spot r s)

below_more : (a b : List ℕ) → is_below a b ≡ true → is_below a (b ++ 0 ∷ []) ≡ true
below_more [] [] = λ e. refl
below_more [] (y ∷ ys) = λ e. refl
below_more (x ∷ xs) [] = λ e. absurd cc
below_more (x ∷ xs) (y ∷ ys) = by (nat_cmp x y) (below_more xs ys)
  where
    by : (o : Ordering) → (is_below xs ys ≡ true → is_below xs (ys ++ 0 ∷ []) ≡ true) → is_lt (ordering_then o (bytes_cmp xs ys)) ≡ true → is_lt (ordering_then o (bytes_cmp xs (ys ++ 0 ∷ []))) ≡ true
    by Less h e = refl
    by Equal h e = h e
    by Greater h e = absurd cc

not_greater : (o : Ordering) → is_le o ≡ true → is_gt o ≡ false
not_greater Less e = refl
not_greater Equal e = refl
not_greater Greater e = absurd cc

-- the bounds of an interval are in order
pub in_order : (low high : Option (List ℕ)) → is_interval low high ≡ true → IsForward (IsLeBy spot_cmp) (IsLtBy spot_cmp) (start_of low) (end_of high)
in_order None high e = tt
in_order (Some a) None e = tt
in_order (Some a) (Some b) e = not_greater (spot_cmp (past_row a) (past_row b)) (past_spot a (past_row b) ∙ below_more a b e)

-- no row is within bounds that are no interval
pub none_within : (low high : Option (List ℕ)) (row : List ℕ) → is_interval low high ≡ false → is_within low high row ≡ false
none_within None high row e = absurd cc
none_within (Some a) None row e = absurd cc
none_within (Some a) (Some b) row e = by (is_below a row) (is_below b row) refl refl
  where
    by : (p q : Bool) → is_below a row ≡ p → is_below b row ≡ q → (p && not q) ≡ false
    by false q f g = refl
    by true true f g = refl
    by true false f g = absurd (let below = is_below-to_most a row b f g in let wrong : false ≡ true = sym e ∙ below in cc)
