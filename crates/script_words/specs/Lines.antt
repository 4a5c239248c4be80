-- What a line asks for.
use Rattle.std.specs.Prelude.{ℕ, Bool, false, ◌==◌, ◌&&◌, nat_le, if◌then◌else◌, List, [], ◌∷◌, length, codes}
use Rattle.std.specs.List.{list_all}
use Rattle.std.specs.Cmp.Lexicographic.{pointwise}
use Rattle.std.specs.Prelude.{nat_eq}
use Rattle.row_keys.specs.Forms.{is_word_byte}
use Rattle.script_words.specs.Words.{words_of}
use Rattle.script_words.specs.declared.line.Line.{Line}
use Rattle.script_words.specs.declared.line.Line.TheVariants.{Blank, CreateTable, Tables, Unbuilt}

abbrev pub is_text : List ℕ → List ℕ → Bool
is_text one two = pointwise nat_eq one two

-- 1 to 64 letters, digits or _
abbrev pub is_table_name : List ℕ → Bool
is_table_name bytes = nat_le 1 (length bytes) && nat_le (length bytes) 64 && list_all is_word_byte bytes

-- the words behind `createtable`
abbrev pub create_of : List (List ℕ) → Line
create_of [] = Unbuilt
create_of (name ∷ []) = if is_table_name name then CreateTable name else Unbuilt
create_of (name ∷ more ∷ rest) = Unbuilt

-- the words behind `tables`
abbrev pub tables_of : List (List ℕ) → Line
tables_of [] = Tables
tables_of (more ∷ rest) = Unbuilt

-- a first word that begins with # makes the line blank
abbrev pub begins_comment : List ℕ → Bool
begins_comment [] = false
begins_comment (byte ∷ bytes) = byte == 35

abbrev pub line_of_words : List (List ℕ) → Line
line_of_words [] = Blank
line_of_words (command ∷ rest) =
    if begins_comment command then Blank else (if is_text command (codes "createtable") then create_of rest else (if is_text command (codes "tables") then tables_of rest else Unbuilt))

-- a line, without its line feed and a carriage return before that
abbrev pub line_of : List ℕ → Line
line_of bytes = line_of_words (words_of bytes)
