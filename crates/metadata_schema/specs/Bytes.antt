-- Bytes: sameness, marks between them, and lists in order.
use Rattle.std.specs.Prelude.{◌≡◌, ℕ, ◌==◌, ◌&&◌, not, nat_eq, Bool, true, List, [], ◌∷◌, ◌++◌, IsTrue}
use Rattle.std.specs.List.{list_all}
use Rattle.std.specs.Ordering.{is_lt}
use Rattle.std.specs.Cmp.Lexicographic.{pointwise}
use Rattle.std.specs.declared.cmp.Ordering.{Ordering}

-- the same bytes
abbrev pub same : List ℕ → List ℕ → Bool
same = pointwise nat_eq

-- no byte is this one
abbrev pub is_free : ℕ → List ℕ → Bool
is_free mark bytes = list_all (λ byte. not (byte == mark)) bytes

-- the bytes before the first mark, and those behind it
pub record IsParted (mark : ℕ) (front back bytes : List ℕ) : Type 0 where
  pub free : IsTrue (is_free mark front)
  pub is : bytes ≡ front ++ mark ∷ back

-- each is below all behind it
abbrev pub is_rising : {K : Type 0} → (K → K → Ordering) → List K → Bool
is_rising order [] = true
is_rising order (key ∷ more) = list_all (λ other. is_lt (order key other)) more && is_rising order more
