-- The names and paths of new data files.
use Rattle.std.specs.Prelude.{ℕ, ◌+◌, ◌-◌, ◌/◌, ◌%◌, ◌==◌, ◌&&◌, zero, suc, nat_lt, if◌then◌else◌, List, [], ◌∷◌, ◌++◌}
use Rattle.metadata_schema.specs.Paths.{file_name, file_path}
use Rattle.new_files.specs.declared.kinds.FileKind.{FileKind}
use Rattle.new_files.specs.declared.kinds.FileKind.TheVariants.{Flush, Merged, Whole, Bulk}

-- F, C, A or I
abbrev pub letter : FileKind → ℕ
letter Flush = 70
letter Merged = 67
letter Whole = 65
letter Bulk = 73

-- a digit of upper-case base 36
abbrev pub base36_digit : ℕ → ℕ
base36_digit value = if nat_lt value 10 then value + 48 else value + 55

-- As many digits of a number in base 36 as it needs, the last of them last: at least so many, with zeros in front, and at most so
-- many.
unfoldable pub digits_between : ℕ → ℕ → ℕ → List ℕ
digits_between zero least number = []
digits_between (suc most) least number = if least == 0 && number == 0 then [] else digits_between most (least - 1) (number / 36) ++ base36_digit (number % 36) ∷ []

-- the text of a drawn number: seven digits, or as many as it needs
abbrev pub name_text : ℕ → List ℕ
name_text number = digits_between 13 7 number

abbrev pub new_name : FileKind → ℕ → List ℕ
new_name kind number = file_name (letter kind) (name_text number)

-- `TABLE/DIR/NAME`
abbrev pub new_path : List ℕ → List ℕ → FileKind → ℕ → List ℕ
new_path table dir kind number = file_path table dir (new_name kind number)
