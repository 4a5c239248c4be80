-- The words of a line.
use Rattle.std.specs.Prelude.{ℕ, suc, Bool, true, false, not, ◌==◌, ◌||◌, if◌then◌else◌, List, [], ◌∷◌}

-- a space or a tab
abbrev pub is_blank : ℕ → Bool
is_blank byte = byte == 32 || byte == 9

-- the word that a line begins with, empty where it begins with a blank, and the words behind it
pub record Parted : Type 0 where
  pub first : List ℕ
  pub more : List (List ℕ)

-- an empty word is no word
abbrev pub all_of : Parted → List (List ℕ)
all_of parted = joined parted.first parted.more
  where
    joined : List ℕ → List (List ℕ) → List (List ℕ)
    joined [] more = more
    joined (byte ∷ bytes) more = (byte ∷ bytes) ∷ more

abbrev pub parted : List ℕ → Parted
parted [] = record { first = []; more = [] }
parted (byte ∷ bytes) = if is_blank byte then record { first = []; more = all_of (parted bytes) } else record { first = byte ∷ (parted bytes).first; more = (parted bytes).more }

-- the words of a line, parted by blanks
abbrev pub words_of : List ℕ → List (List ℕ)
words_of bytes = all_of (parted bytes)

-- whether a byte is blank, or whether it isn't
abbrev pub is_of : Bool → ℕ → Bool
is_of true byte = is_blank byte
is_of false byte = not (is_blank byte)

-- how many bytes at the front are blank, or how many are not
abbrev pub leading : Bool → List ℕ → ℕ
leading blank [] = 0
leading blank (byte ∷ bytes) = if is_of blank byte then suc (leading blank bytes) else 0
