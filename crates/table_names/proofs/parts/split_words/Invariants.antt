use Rattle.std.proofs.Common.{◌≡◌, ◌++◌, length}
use Rattle.table_names.proofs.PartsLemmas.{closed, AreFree}
use Rattle.table_names.proofs.parts.split_words.Given as goal

abbrev pub invariant-loop-word : goal.invariant-loop-word
invariant-loop-word l = record { whole : closed l.words.items ++ l.rest ≡ l.text; free : AreFree l.words.items }

abbrev pub decreases-loop-word : goal.decreases-loop-word
decreases-loop-word l = length l.rest
