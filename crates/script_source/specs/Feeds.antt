-- Pieces of a script, and the line feeds in them.
use Rattle.std.specs.Prelude.{◌≡◌, ◌≢◌, ℕ, ◌<◌, ◌≤◌, Bool, true, false, List, [], ◌∷◌, ◌++◌, length, All, IsTrue}
use Rattle.std.specs.Bool.{OnTrue, OnFalse}
use Rattle.host_model.specs.State.{HostState}
use Rattle.script_source.specs.declared.script.Heard.{Heard}
use Rattle.script_source.specs.declared.script.Heard.TheVariants.{End, Line, TooLong}

-- a part of a piece, which has room for a byte
pub record IsWithin (from to : ℕ) (piece : List ℕ) : Type 0 where
  pub order : from ≤ to
  pub end : to ≤ length piece
  pub room : 0 < length piece

-- no line feed stands in these bytes
pub record HasNoFeed (bytes : List ℕ) : Type 0 where
  pub each : All (λ byte. byte ≢ 10) bytes

-- the bytes up to a line feed, or all of them, go to the end of a line
abbrev pub MovesLine : Bool → List ℕ → List ℕ → List ℕ → List ℕ → Type 0
MovesLine true pending line rest longer = (front : List ℕ) × HasNoFeed front × (pending ≡ front ++ 10 ∷ rest) × (longer ≡ line ++ front)
MovesLine false pending line rest longer = HasNoFeed pending × (rest ≡ []) × (longer ≡ line ++ pending)

-- Bytes are held, or nothing is left. What is left stays the same.
pub record Fills (held : List ℕ) (old : HostState) (more : List ℕ) (new : HostState) (is_some : Bool) : Type 0 where
  pub left : IsTrue old.is_faithful → more ++ new.script ≡ held ++ old.script
  pub some : OnTrue is_some (0 < length more)
  pub none : OnFalse is_some (IsTrue old.is_faithful → more ++ new.script ≡ [])

-- what is left behind the last line feed is a line, or nothing
abbrev pub IsLast : List ℕ → Heard → Type 0
IsLast line End = line ≡ []
IsLast line (Line text) = (0 < length line) × (text.items ≡ line)
IsLast line TooLong = ⊥
