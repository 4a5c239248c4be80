-- What is among the elements of a list.
use Rattle.std.proofs.Common.{◌≡◌, ◌⊎◌, inl, inr, ℕ, zero, suc, ◌<◌, Bool, true, false, cond, List, [], ◌∷◌, length, get_or, reverse, Contains, refl, sym, ◌∙◌, ap, subst, arith}
use Rattle.std.specs.List.{filter}
use Rattle.std.proofs.lemmas.List.{reverse-append, reverse-reverse}
use Rattle.std.proofs.lemmas.List.Elements.{Contains-append_cases}

pub Contains-nil : {X : Type 0} (x : X) → Contains [] x → ⊥
Contains-nil x c = let lt = c.1 in omega arith

pub Contains-here : {X : Type 0} (x : X) (xs : List X) → Contains (x ∷ xs) x
Contains-here x xs = (0, omega arith, refl)

pub Contains-there : {X : Type 0} (y x : X) (xs : List X) → Contains xs x → Contains (y ∷ xs) x
Contains-there y x xs c = let lt = c.1 in (suc c.0, omega arith, c.2)

pub Contains-cons_cases : {X : Type 0} (y x : X) (xs : List X) → Contains (y ∷ xs) x → (y ≡ x) ⊎ Contains xs x
Contains-cons_cases y x xs c = by c.0 c.1 c.2
  where
    by : (k : ℕ) → k < length (y ∷ xs) → get_or (y ∷ xs) k x ≡ x → (y ≡ x) ⊎ Contains xs x
    by zero lt e = inl e
    by (suc k) lt e = inr (k, omega arith, e)

pub Contains-filter : {X : Type 0} (p : X → Bool) (xs : List X) (x : X) → Contains (filter p xs) x → Contains xs x × (p x ≡ true)
Contains-filter p [] x = λ c. absurd (Contains-nil x c)
Contains-filter p (y ∷ ys) x = by (p y) refl (Contains-filter p ys x)
  where
    by : (b : Bool) → p y ≡ b → (Contains (filter p ys) x → Contains ys x × (p x ≡ true)) → Contains (cond b (y ∷ filter p ys) (filter p ys)) x → Contains (y ∷ ys) x × (p x ≡ true)
    by true e h c = elim (Contains-cons_cases y x (filter p ys) c) [
      | inl is ↦ (subst (Contains (y ∷ ys)) is (Contains-here y ys), ap p (sym is) ∙ e)
      | inr rest ↦ (let r = h rest in (Contains-there y x ys r.0, r.1))
    ]
    by false e h c = let r = h c in (Contains-there y x ys r.0, r.1)

pub Contains-in_filter : {X : Type 0} (p : X → Bool) (xs : List X) (x : X) → Contains xs x → p x ≡ true → Contains (filter p xs) x
Contains-in_filter p [] x c pass = absurd (Contains-nil x c)
Contains-in_filter p (y ∷ ys) x c pass = by (p y) refl (λ rest. Contains-in_filter p ys x rest pass)
  where
    by : (b : Bool) → p y ≡ b → (Contains ys x → Contains (filter p ys) x) → Contains (cond b (y ∷ filter p ys) (filter p ys)) x
    by true e h = elim (Contains-cons_cases y x ys c) [
      | inl is ↦ subst (Contains (y ∷ filter p ys)) is (Contains-here y (filter p ys))
      | inr rest ↦ Contains-there y x (filter p ys) (h rest)
    ]
    by false e h = elim (Contains-cons_cases y x ys c) [
      | inl is ↦ absurd (let wrong = sym e ∙ ap p is ∙ pass in cc)
      | inr rest ↦ h rest
    ]

pub Contains-reverse : {X : Type 0} (xs : List X) (x : X) → Contains (reverse xs) x → Contains xs x
Contains-reverse [] x c = c
Contains-reverse (y ∷ ys) x c = elim (Contains-append_cases (reverse ys) (y ∷ []) x (subst (λ l. Contains l x) (reverse-append (y ∷ []) ys) c)) [
  | inl rest ↦ Contains-there y x ys (Contains-reverse ys x rest)
  | inr one ↦ elim (Contains-cons_cases y x [] one) [
    | inl is ↦ subst (Contains (y ∷ ys)) is (Contains-here y ys)
    | inr none ↦ absurd (Contains-nil x none)
  ]
]

pub Contains-in_reverse : {X : Type 0} (xs : List X) (x : X) → Contains xs x → Contains (reverse xs) x
Contains-in_reverse xs x c = Contains-reverse (reverse xs) x (subst (λ l. Contains l x) (sym (reverse-reverse xs)) c)
