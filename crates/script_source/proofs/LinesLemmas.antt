-- The first line of a script.
use Rattle.std.proofs.Common.{◌≡◌, ◌≢◌, ℕ, ◌<◌, ◌≤◌, Bool, true, false, if◌then◌else◌, List, [], ◌∷◌, ◌++◌, length, refl, sym, ◌∙◌, ap, arith}
use Rattle.std.proofs.lemmas.Bool.{ne_eqb}
use Rattle.std.specs.Str.Lines.{strip_carriage_return}
use Rattle.script_source.specs.Script.{ScriptLine, onto, lines_of}
use Rattle.script_source.specs.Hearing.{max_line, TakesLine, MeetsLongLine, Takes, IsShort}
use Rattle.script_source.specs.Feeds.{HasNoFeed, IsLast}
use Rattle.script_source.specs.declared.script.Heard.{Heard}
use Rattle.script_source.specs.declared.script.Heard.TheVariants.{End, Line, TooLong}
use Rattle.script_source.proofs.FeedLemmas.{no_feed_first, no_feed_rest}

lines_of-plain : (byte : ℕ) (bytes : List ℕ) → byte ≢ 10 → lines_of (byte ∷ bytes) ≡ onto byte (lines_of bytes)
lines_of-plain byte bytes other = ap (λ (t : Bool). if t then record { bytes = []; is_ended = true } ∷ lines_of bytes else onto byte (lines_of bytes)) (ne_eqb byte 10 other)

pub lines_of-ended : (line rest : List ℕ) → HasNoFeed line → lines_of (line ++ 10 ∷ rest) ≡ record { bytes = line; is_ended = true } ∷ lines_of rest
lines_of-ended [] rest none = refl
lines_of-ended (byte ∷ bytes) rest none =
    lines_of-plain byte (bytes ++ 10 ∷ rest) (no_feed_first byte bytes none) ∙ ap (onto byte) (lines_of-ended bytes rest (no_feed_rest byte bytes none))

pub lines_of-last : (line : List ℕ) → HasNoFeed line → 0 < length line → lines_of line ≡ record { bytes = line; is_ended = false } ∷ []
lines_of-last [] none some = absurd (omega arith)
lines_of-last (byte ∷ []) none some = lines_of-plain byte [] (no_feed_first byte [] none)
lines_of-last (byte ∷ next ∷ bytes) none some =
    lines_of-plain byte (next ∷ bytes) (no_feed_first byte (next ∷ bytes) none) ∙ ap (onto byte) (lines_of-last (next ∷ bytes) (no_feed_rest byte (next ∷ bytes) none) (omega arith))

-- the first of these lines has so many bytes
record FirstHas (n : ℕ) (lines : List ScriptLine) : Type 0 where
  line : ScriptLine
  more : List ScriptLine
  long : n ≤ length line.bytes
  first : lines ≡ line ∷ more

first_has_one : (byte : ℕ) (lines : List ScriptLine) → FirstHas 1 (onto byte lines)
first_has_one byte [] = record { line = record { bytes = byte ∷ []; is_ended = false }; more = []; long = omega arith; first = refl }
first_has_one byte (line ∷ lines) = record { line = record { bytes = byte ∷ line.bytes; is_ended = line.is_ended }; more = lines; long = omega arith; first = refl }

-- bytes with no feed at the front of a script are of its first line
first_has : (byte : ℕ) (bytes rest : List ℕ) → HasNoFeed (byte ∷ bytes) → FirstHas (length (byte ∷ bytes)) (lines_of (byte ∷ bytes ++ rest))
first_has byte [] rest none =
    let one = first_has_one byte (lines_of rest) in
    record { line = one.line; more = one.more; long = one.long; first = lines_of-plain byte rest (no_feed_first byte [] none) ∙ one.first }
first_has byte (next ∷ bytes) rest none =
    let back = first_has next bytes rest (no_feed_rest byte (next ∷ bytes) none) in record {
      line = record { bytes = byte ∷ back.line.bytes; is_ended = back.line.is_ended };
      more = back.more;
      long = omega (arith, back.long);
      first = lines_of-plain byte (next ∷ bytes ++ rest) (no_feed_first byte (next ∷ bytes) none) ∙ ap (onto byte) back.first;
    }

pub meets_long_line : (before front rest : List ℕ) → before ≡ front ++ rest → HasNoFeed front → max_line < length front → MeetsLongLine before
meets_long_line before [] rest is none long = absurd (omega arith)
meets_long_line before (byte ∷ bytes) rest is none long =
    let has = first_has byte bytes rest none in
    record { line = has.line; more = has.more; long = omega (arith, long, has.long); first = ap lines_of is ∙ has.first }

pub takes_ended : (before line rest text : List ℕ) → before ≡ line ++ 10 ∷ rest → text ≡ strip_carriage_return line → HasNoFeed line → length line ≤ max_line → TakesLine before text rest
takes_ended before line rest text is text_is none short = record { line = record { bytes = line; is_ended = true }; short = short; text_is = text_is; first = ap lines_of is ∙ lines_of-ended line rest none }

-- at the end of the script, behind its last line feed
pub takes_last : (before line after : List ℕ) (heard : Heard) → before ≡ line → after ≡ [] → HasNoFeed line → length line ≤ max_line → IsLast line heard → Takes before heard after
takes_last before line after End is after_is none short last = (is ∙ last, after_is)
takes_last before line after (Line text) is after_is none short last =
    let unended : ScriptLine = record { bytes = line; is_ended = false } in
    record { line = unended; short = short; text_is = last.1; first = ap lines_of is ∙ lines_of-last line none last.0 ∙ ap (λ (l : List ℕ). unended ∷ lines_of l) (sym after_is) }
takes_last before line after TooLong is after_is none short last = absurd last

pub short_last : (line : List ℕ) (heard : Heard) → length line ≤ max_line → IsLast line heard → IsShort heard
short_last line End short is = tt
short_last line (Line text) short is = omega (arith, short, ap length is.1)
short_last line TooLong short is = tt
