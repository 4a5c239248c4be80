-- How each field is spelled as bytes, and what stands in front of bytes.
use Rattle.std.specs.Prelude.{◌≡◌, ℕ, ◌+◌, ◌<◌, Bool, true, false, List, [], ◌∷◌, ◌++◌, length}
use Rattle.std.specs.Int.{Width, w8, w16, w32, byte_len, to_be_bytes, from_be_bytes}

-- a number, its highest byte first
unfoldable pub number_field : Width → ℕ → List ℕ
number_field w n = to_be_bytes w n

-- a flag: the byte 0 or the byte 1
unfoldable pub flag_field : Bool → List ℕ
flag_field false = 0 ∷ []
flag_field true = 1 ∷ []

-- how many bytes there are, and then the bytes
unfoldable pub counted_field : Width → List ℕ → List ℕ
counted_field w bytes = number_field w (length bytes) ++ bytes

-- one length byte and as many bytes
abbrev pub short_field : List ℕ → List ℕ
short_field bytes = counted_field w8 bytes

-- two length bytes and as many bytes
abbrev pub long_field : List ℕ → List ℕ
long_field bytes = counted_field w16 bytes

-- four length bytes and as many bytes
abbrev pub sized_field : List ℕ → List ℕ
sized_field bytes = counted_field w32 bytes

-- the bytes are this spelling, and the rest behind it
pub record Takes (spelled rest bytes : List ℕ) : Type 0 where
  pub is : bytes ≡ spelled ++ rest

-- no value's spelling stands in front of the bytes
abbrev pub TakesNone : {V : Type 0} → (V → List ℕ) → List ℕ → Type 0
TakesNone {V = V} spelling bytes = (value : V) (rest : List ℕ) → bytes ≡ spelling value ++ rest → ⊥

-- not a whole length, or fewer bytes behind it than it says
abbrev pub IsCutShort : Width → List ℕ → Type 0
IsCutShort w bytes = length bytes < byte_len w + from_be_bytes w bytes
