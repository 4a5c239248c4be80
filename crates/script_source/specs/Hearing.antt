-- What the hearing of a line does.
use Rattle.std.specs.Prelude.{◌≡◌, ◌⊎◌, ℕ, ◌≤◌, ◌<◌, List, [], ◌∷◌, length, Option, Some, IsTrue}
use Rattle.host_model.specs.Picture.{Same}
use Rattle.host_model.specs.State.{HostState}
use Rattle.host_model.specs.Moves.{Moves}
use Rattle.host_model.specs.Calls.{Keeps, Faulted, IsOfSource}
use Rattle.host_model.specs.declared.call.HostCall.{HostCall}
use Rattle.host_model.specs.declared.call.HostCall.TheVariants.{Hear}
use Rattle.host_model.specs.declared.fault.Stop.{Stop}
use Rattle.host_model.specs.declared.fault.Stop.TheVariants.{Host, Damaged, Full, NoMemory}
use Rattle.script_source.specs.declared.halt.Halt.{Halt}
use Rattle.script_source.specs.declared.halt.Halt.TheVariants.{Fault, NoMemory as ShortOfMemory}
use Rattle.script_source.specs.Script.{ScriptLine, lines_of, text_of}
use Rattle.script_source.specs.declared.script.Heard.{Heard}
use Rattle.script_source.specs.declared.script.Heard.TheVariants.{End, Line, TooLong}

-- a line may have so many bytes, a carriage return before its line feed counted
abbrev pub max_line : ℕ
max_line = 8192

-- the bytes that are heard and not yet taken, and what it has answered, and answers from then on
pub record ScriptValue : Type 0 where
  pub held : List ℕ
  pub stop : Option Stop

-- the stop that it is answered as
abbrev pub stop_of : Halt → Stop
stop_of (Fault fault) = Host fault
stop_of ShortOfMemory = NoMemory

-- the script alone is heard
pub record Listens (old new : HostState) : Type 0 where
  pub keeps : Keeps old new
  pub same : IsTrue old.is_faithful → (new.files ≡ old.files) × (new.said ≡ old.said)
  pub moves : IsTrue old.is_honest → Moves Same Same old new

-- the last call of the host heard, or bytes were held and the host is the same
abbrev pub HeardLast : {H : Type 0} → List ℕ → Option HostCall → H → H → Type 0
HeardLast held last old new = (last ≡ Some Hear) ⊎ (0 < length held) × (new ≡ old)

-- the next line of what is left of the script, and what is left behind it
pub record TakesLine (before text after : List ℕ) : Type 0 where
  pub line : ScriptLine
  pub short : length line.bytes ≤ max_line
  pub text_is : text ≡ text_of line
  pub first : lines_of before ≡ line ∷ lines_of after

-- the next line of what is left of the script has more bytes than a line may
pub record MeetsLongLine (before : List ℕ) : Type 0 where
  pub line : ScriptLine
  pub more : List ScriptLine
  pub long : max_line < length line.bytes
  pub first : lines_of before ≡ line ∷ more

-- what comes next in what is left of the script: nothing only at its end
abbrev pub Takes : List ℕ → Heard → List ℕ → Type 0
Takes before End after = (before ≡ []) × (after ≡ [])
Takes before (Line text) after = TakesLine before text.items after
Takes before TooLong after = MeetsLongLine before

-- whatever the host gives, a line that is taken is short
abbrev pub IsShort : Heard → Type 0
IsShort End = Unit {0}
IsShort (Line text) = length text.items ≤ max_line
IsShort TooLong = Unit {0}

-- why no line was heard
abbrev pub HearingStops : Stop → HostState → HostState → Type 0
HearingStops (Host fault) old new = IsOfSource fault × Faulted fault old new
HearingStops (Damaged name) old new = ⊥
HearingStops Full old new = ⊥
HearingStops NoMemory old new = Unit {0}
