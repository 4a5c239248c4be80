-- The forms of names and ids, as bytes.
use Rattle.std.specs.Prelude.{◌≡◌, ◌⊎◌, ℕ, ◌≤◌, ◌==◌, ◌||◌, ◌&&◌, nat_le, Bool, List, [], ◌∷◌, length, IsTrue}
use Rattle.std.specs.List.{list_all}

abbrev pub is_between : ℕ → ℕ → ℕ → Bool
is_between low high byte = nat_le low byte && nat_le byte high

abbrev pub is_lower_or_digit : ℕ → Bool
is_lower_or_digit byte = is_between 97 122 byte || is_between 48 57 byte

-- a letter, a digit or _
abbrev pub is_word_byte : ℕ → Bool
is_word_byte byte = is_between 65 90 byte || is_between 97 122 byte || is_between 48 57 byte || byte == 95

abbrev pub is_hexadecimal : ℕ → Bool
is_hexadecimal byte = is_between 48 57 byte || is_between 97 102 byte

-- so many bytes, each of which passes the test
pub record HasBytes (low high : ℕ) (test : ℕ → Bool) (bytes : List ℕ) : Type 0 where
  pub least : low ≤ length bytes
  pub most : length bytes ≤ high
  pub each : IsTrue (list_all test bytes)

-- the id of a user table
abbrev pub IsUserTableId : List ℕ → Type 0
IsUserTableId = HasBytes 1 13 is_lower_or_digit

-- `+r` is the root table's, `!0` the metadata table's
abbrev pub IsTableId : List ℕ → Type 0
IsTableId bytes = (bytes ≡ 43 ∷ 114 ∷ []) ⊎ (bytes ≡ 33 ∷ 48 ∷ []) ⊎ IsUserTableId bytes

pub record IsPath (bytes : List ℕ) : Type 0 where
  pub least : 1 ≤ length bytes
  pub most : length bytes ≤ 200

abbrev pub IsSessionId : List ℕ → Type 0
IsSessionId = HasBytes 16 16 is_hexadecimal

-- `log-` and a session
pub record IsLogName (bytes : List ℕ) : Type 0 where
  pub session : List ℕ
  pub is : bytes ≡ 108 ∷ 111 ∷ 103 ∷ 45 ∷ session
  pub form : IsSessionId session

abbrev pub IsServerName : List ℕ → Type 0
IsServerName = HasBytes 1 32 is_lower_or_digit

-- the form of a table's name, and of a staged file's
abbrev pub IsWordName : List ℕ → Type 0
IsWordName = HasBytes 1 64 is_word_byte
