-- What is among the elements of lists that are mapped, joined or told one by one.
use Rattle.std.proofs.Common.{◌≡◌, inl, inr, List, [], ◌∷◌, ◌++◌, map, Contains, Option, Some, None, refl, sym, ◌∙◌, ap, subst}
use Rattle.std.specs.List.{flat_map}
use Rattle.std.proofs.lemmas.Option.{same_Some, none-some}
use Rattle.std.proofs.lemmas.List.Elements.{Contains-append_left, Contains-append_right, Contains-append_cases}
use Rattle.level_rows.proofs.Membership.{Contains-nil, Contains-here, Contains-there, Contains-cons_cases}
use Rattle.store_meaning.specs.Content.{both_told, all_told}

pub Contains-map : {X Y : Type 0} (f : X → Y) (xs : List X) (y : Y) → Contains (map f xs) y → (x : X) × Contains xs x × (f x ≡ y)
Contains-map f [] y there = absurd (Contains-nil y there)
Contains-map f (x ∷ xs) y there = elim (Contains-cons_cases (f x) y (map f xs) there) [
  | inl is ↦ (x, Contains-here x xs, is)
  | inr rest ↦ (let r = Contains-map f xs y rest in (r.0, Contains-there x r.0 xs r.1, r.2))
]

pub Contains-in_map : {X Y : Type 0} (f : X → Y) (xs : List X) (x : X) → Contains xs x → Contains (map f xs) (f x)
Contains-in_map f [] x there = absurd (Contains-nil x there)
Contains-in_map f (y ∷ xs) x there = elim (Contains-cons_cases y x xs there) [
  | inl is ↦ subst (λ z. Contains (map f (y ∷ xs)) (f z)) is (Contains-here (f y) (map f xs))
  | inr rest ↦ Contains-there (f y) (f x) (map f xs) (Contains-in_map f xs x rest)
]

pub Contains-flat_map : {X Y : Type 0} (f : X → List Y) (xs : List X) (y : Y) → Contains (flat_map f xs) y → (x : X) × Contains xs x × Contains (f x) y
Contains-flat_map f [] y there = absurd (Contains-nil y there)
Contains-flat_map f (x ∷ xs) y there = elim (Contains-append_cases (f x) (flat_map f xs) y there) [
  | inl first ↦ (x, Contains-here x xs, first)
  | inr rest ↦ (let r = Contains-flat_map f xs y rest in (r.0, Contains-there x r.0 xs r.1, r.2))
]

pub Contains-in_flat_map : {X Y : Type 0} (f : X → List Y) (xs : List X) (x : X) (y : Y) → Contains xs x → Contains (f x) y → Contains (flat_map f xs) y
Contains-in_flat_map f [] x y there in_it = absurd (Contains-nil x there)
Contains-in_flat_map f (z ∷ xs) x y there in_it = elim (Contains-cons_cases z x xs there) [
  | inl is ↦ Contains-append_left (f z) (flat_map f xs) y (subst (λ w. Contains (f w) y) (sym is) in_it)
  | inr rest ↦ Contains-append_right (f z) (flat_map f xs) y (Contains-in_flat_map f xs x y rest in_it)
]

-- ---- what is told

-- both are told where their join is
pub both_parts : {Y : Type 0} (o p : Option (List Y)) (ys : List Y) → both_told o p ≡ Some ys → (front : List Y) × (back : List Y) × (o ≡ Some front) × (p ≡ Some back) × (ys ≡ front ++ back)
both_parts None p ys e = absurd (none-some ys e)
both_parts (Some front) None ys e = absurd (none-some ys e)
both_parts (Some front) (Some back) ys e = (front, back, refl, refl, sym (same_Some _ _ e))

pub both_are : {Y : Type 0} (o p : Option (List Y)) (front back : List Y) → o ≡ Some front → p ≡ Some back → both_told o p ≡ Some (front ++ back)
both_are o p front back e f = ap (λ x. both_told x p) e ∙ ap (both_told (Some front)) f

-- each is told where all are
pub all_each : {X Y : Type 0} (f : X → Option (List Y)) (xs : List X) (ys : List Y) → all_told f xs ≡ Some ys → (x : X) → Contains xs x → (zs : List Y) × (f x ≡ Some zs)
all_each f [] ys e x there = absurd (Contains-nil x there)
all_each f (y ∷ xs) ys e x there =
    let parts = both_parts (f y) (all_told f xs) ys e in
    elim (Contains-cons_cases y x xs there) [
      | inl is ↦ (parts.0, ap f (sym is) ∙ parts.2)
      | inr rest ↦ all_each f xs parts.1 parts.3 x rest
    ]

-- what is in one of them is in all
pub all_in : {X Y : Type 0} (f : X → Option (List Y)) (xs : List X) (ys : List Y) → all_told f xs ≡ Some ys → (x : X) (zs : List Y) (y : Y) → Contains xs x → f x ≡ Some zs → Contains zs y → Contains ys y
all_in f [] ys e x zs y there is in_it = absurd (Contains-nil x there)
all_in f (w ∷ xs) ys e x zs y there is in_it =
    let parts = both_parts (f w) (all_told f xs) ys e in
    subst (λ l. Contains l y) (sym parts.4) (elim (Contains-cons_cases w x xs there) [
      | inl at ↦ Contains-append_left parts.0 parts.1 y (subst (λ l. Contains l y) (same_Some _ _ (sym is ∙ ap f (sym at) ∙ parts.2)) in_it)
      | inr rest ↦ Contains-append_right parts.0 parts.1 y (all_in f xs parts.1 parts.3 x zs y rest is in_it)
    ])

-- what is in all is in one of them
pub all_has : {X Y : Type 0} (f : X → Option (List Y)) (xs : List X) (ys : List Y) → all_told f xs ≡ Some ys → (y : Y) → Contains ys y → (x : X) × (zs : List Y) × Contains xs x × (f x ≡ Some zs) × Contains zs y
all_has f [] ys e y there = absurd (Contains-nil y (subst (λ l. Contains l y) (sym (same_Some _ _ e)) there))
all_has f (w ∷ xs) ys e y there =
    let parts = both_parts (f w) (all_told f xs) ys e in
    elim (Contains-append_cases parts.0 parts.1 y (subst (λ l. Contains l y) parts.4 there)) [
      | inl first ↦ (w, parts.0, Contains-here w xs, parts.2, first)
      | inr rest ↦ (let r = all_has f xs parts.1 parts.3 y rest in (r.0, r.1, Contains-there w r.0 xs r.2, r.3, r.4))
    ]

-- all are told where each is
pub all_some : {X Y : Type 0} (f : X → Option (List Y)) (xs : List X) → ((x : X) → Contains xs x → (zs : List Y) × (f x ≡ Some zs)) → (ys : List Y) × (all_told f xs ≡ Some ys)
all_some f [] each = ([], refl)
all_some f (x ∷ xs) each =
    let first = each x (Contains-here x xs) in
    let rest = all_some f xs (λ y there. each y (Contains-there x y xs there)) in
    (first.0 ++ rest.0, both_are (f x) (all_told f xs) first.0 rest.0 first.1 rest.1)
