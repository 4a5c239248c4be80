-- Drawn numbers, as their spellings say them.
use Rattle.std.specs.Prelude.{◌≡◌, ℕ, ◌+◌, ◌-◌, ◌*◌, ◌<◌, nat_lt, if◌then◌else◌, List, [], ◌∷◌, ◌++◌, codes}
use Rattle.row_keys.specs.Forms.{IsLogName}
use Rattle.metadata_schema.specs.Paths.{IsFilePath}

-- the value of a digit: 0 to 9, or a letter of either case
abbrev pub digit_value : ℕ → ℕ
digit_value byte = if nat_lt byte 65 then byte - 48 else (if nat_lt byte 97 then byte - 55 else byte - 87)

-- the number to which digits of this base lead on from another one
abbrev pub number_from : ℕ → ℕ → List ℕ → ℕ
number_from base number [] = number
number_from base number (byte ∷ more) = number_from base (base * number + digit_value byte) more

abbrev pub base36_number : List ℕ → ℕ
base36_number digits = number_from 36 0 digits

abbrev pub base16_number : List ℕ → ℕ
base16_number digits = number_from 16 0 digits

-- the number that was drawn for the name of a file
abbrev pub name_number : {path : List ℕ} → IsFilePath path → ℕ
name_number form = base36_number form.parts.is_name.text

-- the number of the session in a log's name
abbrev pub log_number : {log : List ℕ} → IsLogName log → ℕ
log_number form = base16_number form.session

-- the directory is one of a drawn number, which is below this one
abbrev pub IsDirectoryBelow : ℕ → List ℕ → Type 0
IsDirectoryBelow next dir = (text : List ℕ) → dir ≡ codes "t-" ++ text → base36_number text < next
