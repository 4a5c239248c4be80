-- No spelling begins another one.
use Rattle.std.specs.Prelude.{◌≡◌, List, ℕ, ◌++◌}

-- Of the values that fit, no spelling begins another one's: what stands in front of bytes is one value, and the rest one rest.
abbrev pub IsPrefixFree : {V : Type 0} → (V → Type 0) → (V → List ℕ) → Type 0
IsPrefixFree {V = V} fits spelling = (a b : V) (x y : List ℕ) → fits a → fits b → spelling a ++ x ≡ spelling b ++ y → (a ≡ b) × (x ≡ y)
