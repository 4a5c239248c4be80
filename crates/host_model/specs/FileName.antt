-- The form of a file's name.
use Rattle.std.specs.Prelude.{ℕ, ◌<◌, ◌≤◌, ◌==◌, ◌||◌, ◌&&◌, nat_le, Bool, List, length, IsTrue}
use Rattle.std.specs.List.{list_all}

abbrev pub is_between : ℕ → ℕ → ℕ → Bool
is_between low high byte = nat_le low byte && nat_le byte high

-- a letter, a digit, or one of . _ - + ! ,
abbrev pub is_name_byte : ℕ → Bool
is_name_byte byte =
    is_between 65 90 byte || is_between 97 122 byte || is_between 48 57 byte || byte == 46 || byte == 95 || byte == 45 || byte == 43 || byte == 33 || byte == 44

pub record IsFileName (bytes : List ℕ) : Type 0 where
  pub some : 0 < length bytes
  pub short : length bytes ≤ 120
  pub each : IsTrue (list_all is_name_byte bytes)
