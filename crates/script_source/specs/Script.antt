-- The lines of a script.
use Rattle.std.specs.Prelude.{ℕ, ◌==◌, Bool, true, false, if◌then◌else◌, List, [], ◌∷◌}
use Rattle.std.specs.Str.Lines.{strip_carriage_return}

-- the bytes of a line, and whether a line feed ends it
pub record ScriptLine : Type 0 where
  pub bytes : List ℕ
  pub is_ended : Bool

-- a byte joins the line that it stands before, or makes a last line that nothing ends
abbrev pub onto : ℕ → List ScriptLine → List ScriptLine
onto byte [] = record { bytes = byte ∷ []; is_ended = false } ∷ []
onto byte (line ∷ lines) = record { bytes = byte ∷ line.bytes; is_ended = line.is_ended } ∷ lines

-- the lines of a script: each ends with a line feed, and the last may lack it
abbrev pub lines_of : List ℕ → List ScriptLine
lines_of [] = []
lines_of (byte ∷ bytes) = if byte == 10 then record { bytes = []; is_ended = true } ∷ lines_of bytes else onto byte (lines_of bytes)

-- what is read of a line: a carriage return before its line feed is dropped
abbrev pub text_of : ScriptLine → List ℕ
text_of line = if line.is_ended then strip_carriage_return line.bytes else line.bytes
