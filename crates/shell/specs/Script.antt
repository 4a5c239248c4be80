-- A whole script, served line by line.
use Rattle.std.specs.Prelude.{◌≡◌, ◌⊎◌, ℕ, ◌<◌, ◌≤◌, List, map as mapped, length, take, slice_get, Some}
use Rattle.std.specs.List.{AllByRecursion}
use Rattle.script_source.specs.Script.{ScriptLine, lines_of, text_of}
use Rattle.script_source.specs.Hearing.{max_line}

-- a script may have so many lines
abbrev pub max_lines : ℕ
max_lines = 100000

-- the texts of the script that a host has left
abbrev pub texts_of : List ℕ → List (List ℕ)
texts_of script = mapped text_of (lines_of script)

-- a line is too long
abbrev pub IsLong : ScriptLine → Type 0
IsLong line = max_line < length line.bytes

-- the line behind so many is too long, or one too many
pub record IsOver (lines : List ScriptLine) (count : ℕ) : Type 0 where
  pub line : ScriptLine
  pub is : slice_get lines count ≡ Some line
  pub over : IsLong line ⊎ (max_lines ≤ count)

-- so many lines are there, and none of them is too long or one too many
pub record AreWithin (lines : List ScriptLine) (count : ℕ) : Type 0 where
  pub there : count ≤ length lines
  pub few : count ≤ max_lines
  pub short : AllByRecursion (λ (line : ScriptLine). length line.bytes ≤ max_line) (take count lines)
