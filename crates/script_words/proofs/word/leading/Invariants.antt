use Rattle.std.proofs.Common.{◌≡◌, ◌+◌, drop}
use Rattle.script_words.specs.Words.{leading}
use Rattle.script_words.proofs.word.leading.Given as goal

abbrev pub invariant-loop-i : goal.invariant-loop-i
invariant-loop-i l = leading l.blank l.bytes ≡ l.i + leading l.blank (drop l.i l.bytes)
