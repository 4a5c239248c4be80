-- What two lists that are joined and sorted have.
use Rattle.std.proofs.Common.{◌≡◌, ◌⊎◌, ◌↔◌, inl, inr, ℕ, true, List, [], ◌∷◌, ◌++◌, Contains, IsTrue, refl, sym, ap, subst}
use Rattle.std.specs.List.{AllByRecursion, dedup, list_all}
use Rattle.std.specs.List.Sorted.{IsPermutation, IsStrictlySortedBy}
use Rattle.std.specs.Ordering.{is_lt}
use Rattle.std.specs.declared.cmp.Ordering.TheVariants.{Less}
use Rattle.std.proofs.lemmas.Bool.{and_from}
use Rattle.std.proofs.lemmas.Cmp.{nat_list_eq_equiv}
use Rattle.std.proofs.lemmas.List.Elements.{Contains-append_left, Contains-append_right, Contains-append_cases}
use Rattle.std.proofs.lemmas.List.Kept.{Contains-dedup, Contains-from_dedup}
use Rattle.std.proofs.lemmas.List.Sorted.{Contains-permutation, IsPermutation-sym}
use Rattle.row_keys.specs.RowOrder.{bytes_cmp}
use Rattle.metadata_schema.specs.Bytes.{same, is_rising}
use Rattle.level_rows.proofs.EndLemmas.{same-true}

-- a sorted list has what both lists have
pub of_both : {X : Type 0} (all more joined sorted : List X) → joined ≡ all ++ more → IsPermutation joined sorted → (x : X) → Contains sorted x ↔ (Contains all x ⊎ Contains more x)
of_both all more joined sorted is moved x = (
  λ there. Contains-append_cases all more x (subst (λ l. Contains l x) is (Contains-permutation sorted joined x (IsPermutation-sym joined sorted moved) there)),
  λ there. Contains-permutation joined sorted x moved (subst (λ l. Contains l x) (sym is) (elim there [ inl front ↦ Contains-append_left all more x front | inr back ↦ Contains-append_right all more x back ])),
)

-- so without doubles
pub once_each : (sorted once : List (List ℕ)) → once ≡ dedup same sorted → (x : List ℕ) → Contains once x ↔ Contains sorted x
once_each sorted once is x = (
  λ there. Contains-from_dedup same sorted x (subst (λ l. Contains l x) is there),
  λ there. subst (λ l. Contains l x) (sym is) (Contains-dedup nat_list_eq_equiv same-true sorted x there),
)

all_below : (x : List ℕ) (ys : List (List ℕ)) → AllByRecursion (λ y. bytes_cmp x y ≡ Less) ys → list_all (λ y. is_lt (bytes_cmp x y)) ys ≡ true
all_below x [] all = refl
all_below x (y ∷ ys) all = and_from (is_lt (bytes_cmp x y)) (list_all (λ z. is_lt (bytes_cmp x z)) ys) (ap is_lt all.0) (all_below x ys all.1)

pub rises : (paths : List (List ℕ)) → IsStrictlySortedBy bytes_cmp paths → IsTrue (is_rising bytes_cmp paths)
unfolding IsStrictlySortedBy
rises [] sorted = refl
rises (x ∷ xs) sorted = and_from (list_all (λ y. is_lt (bytes_cmp x y)) xs) (is_rising bytes_cmp xs) (all_below x xs sorted.0) (rises xs sorted.1)
