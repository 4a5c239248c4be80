-- Texts as words, each spelled in one way, and words behind each other.
use Rattle.std.specs.Prelude.{ℕ, ◌+◌, ◌/◌, ◌%◌, ◌==◌, ◌&&◌, not, nat_lt, Bool, if◌then◌else◌, List, [], ◌∷◌, ◌++◌, codes, Option, Some, None}
use Rattle.std.specs.List.{flat_map}
use Rattle.row_keys.specs.Forms.{is_between}
use Rattle.metadata_schema.specs.Bytes.{same}

-- a byte that stands for itself: from `!` to `~`, other than the backslash
abbrev pub stands_for_itself : ℕ → Bool
stands_for_itself byte = is_between 33 126 byte && not (byte == 92)

-- a digit of base 16, in lower case
abbrev pub hexadecimal_digit : ℕ → ℕ
hexadecimal_digit value = if nat_lt value 10 then value + 48 else value + 87

-- a backslash, `x` and the two digits of the byte
abbrev pub escaped : ℕ → List ℕ
escaped byte = 92 ∷ 120 ∷ hexadecimal_digit (byte / 16) ∷ hexadecimal_digit (byte % 16) ∷ []

-- a byte as itself where it stands for itself, and else escaped
abbrev pub spelled_byte : ℕ → List ℕ
spelled_byte byte = if stands_for_itself byte then byte ∷ [] else escaped byte

-- A text as a word, byte by byte. The empty text is a backslash and `e`, and the text of one `-` is escaped.
abbrev pub word_of : List ℕ → List ℕ
word_of [] = 92 ∷ 101 ∷ []
word_of (byte ∷ more) = if same (byte ∷ more) (codes "-") then escaped byte else flat_map spelled_byte (byte ∷ more)

-- a bound, where `-` is none
abbrev pub bound_word : Option (List ℕ) → List ℕ
bound_word None = codes "-"
bound_word (Some row) = word_of row

-- a word and others behind it, parted by one space
abbrev pub spaced : List ℕ → List (List ℕ) → List ℕ
spaced first others = first ++ flat_map (λ word. 32 ∷ word) others
