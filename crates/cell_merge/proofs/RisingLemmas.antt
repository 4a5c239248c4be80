-- Lists whose keys rise.
use Rattle.std.proofs.Common.{◌≡◌, inl, inr, List, [], ◌∷◌, Bool, true, false, cond, Contains, map, refl, sym, ◌∙◌, ap, subst}
use Rattle.std.specs.List.{AllByRecursion, filter}
use Rattle.std.specs.List.Sorted.{IsStrictlySortedBy}
use Rattle.std.specs.declared.cmp.Ordering.TheVariants.{Less}
use Rattle.row_keys.specs.declared.key.Key.{Key}
use Rattle.row_keys.specs.Keys.{key_cmp}
use Rattle.cell_merge.proofs.KeyLemmas.{key_cmp-irreflexive, key_cmp-asymmetric}
use Rattle.cell_merge.proofs.Membership.{Contains-nil, Contains-here, Contains-there, Contains-cons_cases}

all_of : {X : Type 0} (f : X → Key) (P : Key → Type 0) (xs : List X) (x : X) → AllByRecursion P (map f xs) → Contains xs x → P (f x)
all_of f P [] x all c = absurd (Contains-nil x c)
all_of f P (y ∷ ys) x all c = elim (Contains-cons_cases y x ys c) [
  | inl is ↦ subst (λ z. P (f z)) is all.0
  | inr rest ↦ all_of f P ys x all.1 rest
]

pub rising_head : {X : Type 0} (f : X → Key) (y : X) (ys : List X) → IsStrictlySortedBy key_cmp (map f (y ∷ ys)) → AllByRecursion (λ k. key_cmp (f y) k ≡ Less) (map f ys)
unfolding IsStrictlySortedBy
rising_head f y ys up = up.0

pub rising_tail : {X : Type 0} (f : X → Key) (y : X) (ys : List X) → IsStrictlySortedBy key_cmp (map f (y ∷ ys)) → IsStrictlySortedBy key_cmp (map f ys)
unfolding IsStrictlySortedBy
rising_tail f y ys up = up.1

-- what follows the head is above it
pub above_head : {X : Type 0} (f : X → Key) (y x : X) (ys : List X) → IsStrictlySortedBy key_cmp (map f (y ∷ ys)) → Contains ys x → key_cmp (f y) (f x) ≡ Less
above_head f y x ys up c = all_of f (λ k. key_cmp (f y) k ≡ Less) ys x (rising_head f y ys up) c

-- two elements at one key are one
pub one_at_key : {X : Type 0} (f : X → Key) (xs : List X) (a b : X) → IsStrictlySortedBy key_cmp (map f xs) → Contains xs a → Contains xs b → f a ≡ f b → a ≡ b
one_at_key f [] a b up p q same = absurd (Contains-nil a p)
one_at_key f (x ∷ xs) a b up p q same = elim (Contains-cons_cases x a xs p) [
  | inl a_is ↦ elim (Contains-cons_cases x b xs q) [
    | inl b_is ↦ sym a_is ∙ b_is
    | inr b_in ↦ absurd (key_cmp-irreflexive (f x) (f b) (above_head f x b xs up b_in) (ap f a_is ∙ same))
  ]
  | inr a_in ↦ elim (Contains-cons_cases x b xs q) [
    | inl b_is ↦ absurd (key_cmp-irreflexive (f x) (f a) (above_head f x a xs up a_in) (ap f b_is ∙ sym same))
    | inr b_in ↦ one_at_key f xs a b (rising_tail f x xs up) a_in b_in same
  ]
]

-- two such lists of the same elements are one
pub same_elements : {X : Type 0} (f : X → Key) (xs ys : List X) → IsStrictlySortedBy key_cmp (map f xs) → IsStrictlySortedBy key_cmp (map f ys)
    → ((z : X) → Contains xs z → Contains ys z) → ((z : X) → Contains ys z → Contains xs z) → xs ≡ ys
same_elements f [] [] up_x up_y to back = refl
same_elements f [] (y ∷ ys) up_x up_y to back = absurd (Contains-nil y (back y (Contains-here y ys)))
same_elements f (x ∷ xs) [] up_x up_y to back = absurd (Contains-nil x (to x (Contains-here x xs)))
same_elements {X = X} f (x ∷ xs) (y ∷ ys) up_x up_y to back = λ i. heads i ∷ tails (same_elements f xs ys) i
  where
    heads : x ≡ y
    heads = elim (Contains-cons_cases y x ys (to x (Contains-here x xs))) [
      | inl is ↦ sym is
      | inr x_in ↦ elim (Contains-cons_cases x y xs (back y (Contains-here y ys))) [
        | inl is ↦ is
        | inr y_in ↦ key_cmp-asymmetric (f y) (f x) (above_head f y x ys up_y x_in) (above_head f x y xs up_x y_in)
      ]
    ]

    to_tail : (z : X) → Contains xs z → Contains ys z
    to_tail z c = elim (Contains-cons_cases y z ys (to z (Contains-there x z xs c))) [
      | inl is ↦ absurd (key_cmp-irreflexive (f x) (f z) (above_head f x z xs up_x c) (ap f (heads ∙ is)))
      | inr rest ↦ rest
    ]

    back_tail : (z : X) → Contains ys z → Contains xs z
    back_tail z c = elim (Contains-cons_cases x z xs (back z (Contains-there y z ys c))) [
      | inl is ↦ absurd (key_cmp-irreflexive (f y) (f z) (above_head f y z ys up_y c) (ap f (sym heads ∙ is)))
      | inr rest ↦ rest
    ]

    tails : (IsStrictlySortedBy key_cmp (map f xs) → IsStrictlySortedBy key_cmp (map f ys) → ((z : X) → Contains xs z → Contains ys z) → ((z : X) → Contains ys z → Contains xs z) → xs ≡ ys) → xs ≡ ys
    tails h = h (rising_tail f x xs up_x) (rising_tail f y ys up_y) to_tail back_tail

all-filter : {X : Type 0} (f : X → Key) (p : X → Bool) (P : Key → Type 0) (xs : List X) → AllByRecursion P (map f xs) → AllByRecursion P (map f (filter p xs))
all-filter f p P [] all = tt
all-filter f p P (x ∷ xs) all = by (p x) (all-filter f p P xs all.1)
  where
    by : (b : Bool) → AllByRecursion P (map f (filter p xs)) → AllByRecursion P (map f (cond b (x ∷ filter p xs) (filter p xs)))
    by true rest = (all.0, rest)
    by false rest = rest

pub rising-filter : {X : Type 0} (f : X → Key) (p : X → Bool) (xs : List X) → IsStrictlySortedBy key_cmp (map f xs) → IsStrictlySortedBy key_cmp (map f (filter p xs))
unfolding IsStrictlySortedBy
rising-filter f p [] up = tt
rising-filter f p (x ∷ xs) up = by (p x) (rising-filter f p xs up.1)
  where
    by : (b : Bool) → IsStrictlySortedBy key_cmp (map f (filter p xs)) → IsStrictlySortedBy key_cmp (map f (cond b (x ∷ filter p xs) (filter p xs)))
    by true rest = (all-filter f p (λ k. key_cmp (f x) k ≡ Less) xs up.0, rest)
    by false rest = rest
