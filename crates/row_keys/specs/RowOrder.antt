-- The order of rows, and the rows between two bounds. A bound that isn't there is no limit.
use Rattle.std.specs.Prelude.{ℕ, Bool, IsTrue, true, not, ◌&&◌, List, Option, Some, None, if◌then◌else◌}
use Rattle.std.specs.Ordering.{nat_cmp, is_lt}
use Rattle.std.specs.declared.cmp.Ordering.{Ordering}
use Rattle.std.specs.Cmp.Lexicographic.{slice_cmp}

-- by bytes: the first that differ decide, and a row stands before those that it begins
abbrev pub bytes_cmp : List ℕ → List ℕ → Ordering
bytes_cmp = slice_cmp nat_cmp

abbrev pub is_below : List ℕ → List ℕ → Bool
is_below a b = is_lt (bytes_cmp a b)

-- above the lower bound
abbrev pub is_above : Option (List ℕ) → List ℕ → Bool
is_above None row = true
is_above (Some low) row = is_below low row

-- up to the upper bound, and at it
abbrev pub is_up_to : Option (List ℕ) → List ℕ → Bool
is_up_to None row = true
is_up_to (Some high) row = not (is_below high row)

-- in the range (low, high]
abbrev pub is_within : Option (List ℕ) → Option (List ℕ) → List ℕ → Bool
is_within low high row = is_above low row && is_up_to high row

-- the greater of two lower bounds
abbrev pub higher_low : Option (List ℕ) → Option (List ℕ) → Option (List ℕ)
higher_low None b = b
higher_low (Some a) None = Some a
higher_low (Some a) (Some b) = Some (if is_below a b then b else a)

-- the smaller of two upper bounds
abbrev pub lower_high : Option (List ℕ) → Option (List ℕ) → Option (List ℕ)
lower_high None b = b
lower_high (Some a) None = Some a
lower_high (Some a) (Some b) = Some (if is_below b a then b else a)

-- the lower bound is below the upper one
abbrev pub is_interval : Option (List ℕ) → Option (List ℕ) → Bool
is_interval None high = true
is_interval (Some low) None = true
is_interval (Some low) (Some high) = is_below low high

-- the ranges (prev, end] and (from, to] have an interval in common
abbrev pub have_common : Option (List ℕ) → Option (List ℕ) → Option (List ℕ) → Option (List ℕ) → Bool
have_common prev end from to = is_interval (higher_low prev from) (lower_high end to)

-- some bytes lie in both ranges
abbrev pub ShareBytes : Option (List ℕ) → Option (List ℕ) → Option (List ℕ) → Option (List ℕ) → Type 0
ShareBytes prev end from to = (bytes : List ℕ) × IsTrue (is_within prev end bytes) × IsTrue (is_within from to bytes)
